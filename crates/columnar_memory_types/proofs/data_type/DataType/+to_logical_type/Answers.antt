use Rattle.std.proofs.Common.{◌∙◌, sym, ap}
use Rattle.columnar_memory_types.specs.Layouts.{logical_type, physical_type}
use Rattle.columnar_memory_types.proofs.LogicalTypes.{logical_type-Extension, logical_type-other, physical_type-Extension}
use Rattle.columnar_memory_types.proofs.data_type.DataType.+to_logical_type.Goals as goal

pub returns-in-Extension-clause-value : goal.returns-in-Extension-clause-value
returns-in-Extension-clause-value t c =
    c.to_logical_type.ensures.value ∙ ap logical_type c.get.ensures
    ∙ sym (ap logical_type c.in-Extension.is ∙ logical_type-Extension c.in-Extension.field-0 c.in-Extension.inner c.in-Extension.field-2)

pub returns-in-Extension-clause-layout : goal.returns-in-Extension-clause-layout
returns-in-Extension-clause-layout t c =
    c.to_logical_type.ensures.layout ∙ ap physical_type c.get.ensures
    ∙ sym (ap physical_type c.in-Extension.is ∙ physical_type-Extension c.in-Extension.field-0 c.in-Extension.inner c.in-Extension.field-2)

pub returns-in_default-clause-value : goal.returns-in_default-clause-value
returns-in_default-clause-value t c = sym (logical_type-other c.args.self.now c.in_default.not-Extension)
