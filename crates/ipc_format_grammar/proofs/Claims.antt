-- Types and fields with what is shown of each, for inductions over types.
pub use Rattle.nested_arrays_columns.proofs.Claims.{TypeWith, FieldWith, NoClaim, LayerWith, FieldLayerWith, bare_layer}
