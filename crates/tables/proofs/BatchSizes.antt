-- A command that words state asks for batches of a size that they may have.
use Rattle.std.proofs.Common.{◌≡◌, ℕ, Bool, true, false, List, [], ◌∷◌, refl, sym, subst}
use Rattle.std.specs.Prelude.{Option, Some, None, codes, if◌then◌else◌}
use Rattle.std.specs.Str.{bytes_eq}
use Rattle.tables_rows.specs.chunks.ipc_format.Seals.{is_batch_size}
use Rattle.tables.specs.Columns.{columns_in, limit_of, names_columns}
use Rattle.tables.specs.Command.{Asked, Pick, Seal, command_of, cut_asked, cut_of, has_batch_size, join_of, pick_asked, pick_of, same_of}
use Rattle.tables.specs.Command.{seal_asked, seal_of}
use Rattle.tables.specs.Number.{number_of}

-- what is asked for, if anything, is so
abbrev fits_if : Option Asked → Bool
fits_if None = true
fits_if (Some asked) = has_batch_size asked

either_fits : (test : Bool) (one other : Option Asked) → fits_if one ≡ true → fits_if other ≡ true
    → fits_if (if test then one else other) ≡ true
either_fits true one other first second = first
either_fits false one other first second = second

sized_fits : (test : Bool) (size : ℕ) (input output : List ℕ) → is_batch_size size ≡ test
    → fits_if (if test then Some (Seal size input output) else None) ≡ true
sized_fits true size input output is = is
sized_fits false size input output is = refl

seal_asked_fits : (size : Option ℕ) (input output : List ℕ) → fits_if (seal_asked size input output) ≡ true
seal_asked_fits None input output = refl
seal_asked_fits (Some size) input output = sized_fits (is_batch_size size) size input output refl

pick_asked_fits : (columns : List ℕ) (limit : Option (Option ℕ)) (input output : List ℕ) → fits_if (pick_asked columns limit input output) ≡ true
pick_asked_fits columns None input output = refl
pick_asked_fits columns (Some limit) input output =
    either_fits (names_columns columns) (Some (Pick (columns_in columns) limit input output)) None refl refl

cut_asked_fits : (offset length : Option ℕ) (input output : List ℕ) → fits_if (cut_asked offset length input output) ≡ true
cut_asked_fits None length input output = refl
cut_asked_fits (Some offset) None input output = refl
cut_asked_fits (Some offset) (Some length) input output = refl

seal_fits : (words : List (List ℕ)) → fits_if (seal_of words) ≡ true
seal_fits [] = refl
seal_fits (size ∷ []) = refl
seal_fits (size ∷ input ∷ []) = refl
seal_fits (size ∷ input ∷ output ∷ []) = seal_asked_fits (number_of size) input output
seal_fits (size ∷ input ∷ output ∷ more ∷ words) = refl

same_fits : (words : List (List ℕ)) → fits_if (same_of words) ≡ true
same_fits [] = refl
same_fits (left ∷ []) = refl
same_fits (left ∷ right ∷ []) = refl
same_fits (left ∷ right ∷ more ∷ words) = refl

pick_fits : (words : List (List ℕ)) → fits_if (pick_of words) ≡ true
pick_fits [] = refl
pick_fits (columns ∷ []) = refl
pick_fits (columns ∷ limit ∷ []) = refl
pick_fits (columns ∷ limit ∷ input ∷ []) = refl
pick_fits (columns ∷ limit ∷ input ∷ output ∷ []) = pick_asked_fits columns (limit_of limit) input output
pick_fits (columns ∷ limit ∷ input ∷ output ∷ more ∷ words) = refl

cut_fits : (words : List (List ℕ)) → fits_if (cut_of words) ≡ true
cut_fits [] = refl
cut_fits (offset ∷ []) = refl
cut_fits (offset ∷ length ∷ []) = refl
cut_fits (offset ∷ length ∷ input ∷ []) = refl
cut_fits (offset ∷ length ∷ input ∷ output ∷ []) = cut_asked_fits (number_of offset) (number_of length) input output
cut_fits (offset ∷ length ∷ input ∷ output ∷ more ∷ words) = refl

join_fits : (words : List (List ℕ)) → fits_if (join_of words) ≡ true
join_fits [] = refl
join_fits (output ∷ []) = refl
join_fits (output ∷ first ∷ []) = refl
join_fits (output ∷ first ∷ second ∷ others) = refl

command_fits : (words : List (List ℕ)) → fits_if (command_of words) ≡ true
command_fits [] = refl
command_fits (name ∷ rest) =
    either_fits (bytes_eq name (codes "seal")) (seal_of rest) _ (seal_fits rest)
    (either_fits (bytes_eq name (codes "same")) (same_of rest) _ (same_fits rest)
    (either_fits (bytes_eq name (codes "pick")) (pick_of rest) _ (pick_fits rest)
    (either_fits (bytes_eq name (codes "cut")) (cut_of rest) _ (cut_fits rest)
    (either_fits (bytes_eq name (codes "join")) (join_of rest) None (join_fits rest) refl))))

pub stated_fits : (words : List (List ℕ)) (asked : Asked) → Some asked ≡ command_of words → has_batch_size asked ≡ true
stated_fits words asked is = subst (λ (found : Option Asked). fits_if found ≡ true) (sym is) (command_fits words)
