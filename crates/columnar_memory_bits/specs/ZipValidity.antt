-- Values beside their validity bits (Arrow columnar format, "Validity bitmaps").
use Rattle.std.specs.Prelude.{◌≡◌, Bool, true, false, Option, Some, None}

-- a value where its bit is set, and no value where it isn't; nothing where either has ended
abbrev pub slot : {T : Type 0} → Option T → Option Bool → Option (Option T)
slot (Some value) (Some true) = Some (Some value)
slot (Some value) (Some false) = Some None
slot (Some value) None = None
slot None valid = None

module _ {T I V : Type 0} (values : I → Option T → I → Type 0) (validity : V → Option Bool → V → Type 0) where
  -- a step of the values and a step of their bits give a step of both
  pub record StepsBoth (before : I × V) (result : Option (Option T)) (after : I × V) : Type 0 where
    pub value : Option T
    pub valid : Option Bool
    pub value_steps : values before.0 value after.0
    pub valid_steps : validity before.1 valid after.1
    pub is_slot : result ≡ slot value valid
