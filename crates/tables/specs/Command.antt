-- What the words of a command line ask for.
use Rattle.std.specs.Prelude.{ℕ, Bool, true, List, [], ◌∷◌, codes, map, Option, Some, None, if◌then◌else◌}
use Rattle.std.specs.Str.{bytes_eq}
use Rattle.std.specs.String.{string_bytes}
use Rattle.tables_rows.specs.chunks.ipc_format.Seals.{is_batch_size}
use Rattle.tables.specs.Columns.{columns_in, limit_of, names_columns}
use Rattle.tables.specs.Number.{number_of}
use Rattle.tables.specs.declared.commands.Command.{Command}
use Rattle.tables.specs.declared.commands.Command.TheVariants as variant

-- a command, with the bytes of each name
pub data Asked : Type 0 where
  Seal : (size : ℕ) (input output : List ℕ) → Asked
  Same : (left right : List ℕ) → Asked
  Pick : (columns : List ℕ) (limit : Option ℕ) (input output : List ℕ) → Asked
  Cut : (offset length : ℕ) (input output : List ℕ) → Asked
  Join : (output first : List ℕ) (others : List (List ℕ)) → Asked

-- what a parsed command asks for
abbrev pub asked_by : Command → Asked
asked_by (variant.Seal size input output) = Seal size input.now output.now
asked_by (variant.Same left right) = Same left.now right.now
asked_by (variant.Pick columns limit input output) = Pick (columns_in columns.now) limit input.now output.now
asked_by (variant.Cut offset length input output) = Cut offset length input.now output.now
asked_by (variant.Join output first others) = Join output.now first.now (map string_bytes others.now)

-- the seal in batches of a number that may be missing, or be no batch's size
abbrev pub seal_asked : Option ℕ → List ℕ → List ℕ → Option Asked
seal_asked (Some size) input output = if is_batch_size size then Some (Seal size input output) else None
seal_asked None input output = None

-- the words after the command's name, at `seal`
abbrev pub seal_of : List (List ℕ) → Option Asked
seal_of (size ∷ input ∷ output ∷ []) = seal_asked (number_of size) input output
seal_of _ = None

-- the words after the command's name, at `same`
abbrev pub same_of : List (List ℕ) → Option Asked
same_of (left ∷ right ∷ []) = Some (Same left right)
same_of _ = None

-- the choice of some columns under a limit that may be missing
abbrev pub pick_asked : List ℕ → Option (Option ℕ) → List ℕ → List ℕ → Option Asked
pick_asked columns (Some limit) input output = if names_columns columns then Some (Pick (columns_in columns) limit input output) else None
pick_asked columns None input output = None

-- the words after the command's name, at `pick`
abbrev pub pick_of : List (List ℕ) → Option Asked
pick_of (columns ∷ limit ∷ input ∷ output ∷ []) = pick_asked columns (limit_of limit) input output
pick_of _ = None

-- the cut between two numbers that may be missing
abbrev pub cut_asked : Option ℕ → Option ℕ → List ℕ → List ℕ → Option Asked
cut_asked (Some offset) (Some length) input output = Some (Cut offset length input output)
cut_asked (Some offset) None input output = None
cut_asked None length input output = None

-- the words after the command's name, at `cut`
abbrev pub cut_of : List (List ℕ) → Option Asked
cut_of (offset ∷ length ∷ input ∷ output ∷ []) = cut_asked (number_of offset) (number_of length) input output
cut_of _ = None

-- the words after the command's name, at `join`: the output, and two inputs or more
abbrev pub join_of : List (List ℕ) → Option Asked
join_of (output ∷ first ∷ second ∷ others) = Some (Join output first (second ∷ others))
join_of _ = None

-- the command that the words state, where they state one
abbrev pub command_of : List (List ℕ) → Option Asked
command_of [] = None
command_of (name ∷ rest) = if bytes_eq name (codes "seal") then seal_of rest else (if bytes_eq name (codes "same") then same_of rest
    else (if bytes_eq name (codes "pick") then pick_of rest else (if bytes_eq name (codes "cut") then cut_of rest
    else (if bytes_eq name (codes "join") then join_of rest else None))))

-- the inputs that a command reads, in order
abbrev pub inputs_of : Asked → List (List ℕ)
inputs_of (Seal size input output) = input ∷ []
inputs_of (Same left right) = left ∷ right ∷ []
inputs_of (Pick columns limit input output) = input ∷ []
inputs_of (Cut offset length input output) = input ∷ []
inputs_of (Join output first others) = first ∷ others

-- a seal is asked for in batches of a size that they may have
abbrev pub has_batch_size : Asked → Bool
has_batch_size (Seal size input output) = is_batch_size size
has_batch_size _ = true
