pub mod SchemaMessages
pub mod WritableSchemas
pub mod NodesAndBuffers
