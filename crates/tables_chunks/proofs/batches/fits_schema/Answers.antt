-- A batch of another width doesn't fit.
use Rattle.std.proofs.Common.{◌≡◌, true, length, ap}
use Rattle.tables_chunks.specs.StoredTables.{is_of_fields}
use Rattle.tables_chunks.proofs.TellingTables.{tells_not, other_width}
use Rattle.tables_chunks.proofs.batches.fits_schema.Goals as goal

pub returns-then-fields-arrays : goal.returns-then-fields-arrays
returns-then-fields-arrays c =
    let fields = c.args.schema.now.fields in
    let batch = c.args.batch.now in
    tells_not (is_of_fields fields batch ≡ true) (other_width fields batch (length c.as_slice-fields.result.now)
    (length c.arrays-arrays.result.now) (ap length c.as_slice-fields.ensures) (ap length c.arrays-arrays.ensures) c.if-fields-arrays.true)
