-- The laws of cuts, as the functions of the crate promise them.
use Rattle.nested_arrays_columns.proofs.CutLengths.{column_len-cut}
use Rattle.nested_arrays_columns.proofs.CutsOfCuts.{slots-cut, cut-cut}
use Rattle.nested_arrays_columns.proofs.SoundCuts.{is_sound-cut}
use Rattle.nested_arrays_columns.specs.ColumnLaws.{CutsSlots, CutsLengths, CutsStaySound, CutsJoin}

pub cuts_slots : CutsSlots
cuts_slots = slots-cut

pub cuts_lengths : CutsLengths
cuts_lengths = column_len-cut

pub cuts_stay_sound : CutsStaySound
cuts_stay_sound = is_sound-cut

pub cuts_join : CutsJoin
cuts_join = cut-cut
