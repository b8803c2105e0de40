-- Reading one thing after another.
use Rattle.std.proofs.Common.{◌≡◌, ◌∙◌, refl, ap}
use Rattle.std.specs.Prelude.{Option, Some, None, Result, Ok, Err}
use Rattle.ipc_format_grammar.specs.columnar_memory.declared.Error.{Error}
use Rattle.ipc_format_grammar.specs.columnar_memory.declared.Error.TheVariants.{
  NotYetImplemented,
  InvalidArgumentError,
  ExternalFormat,
  OutOfSpec,
  External,
  Io,
  Overflow,
  OutOfMemory,
}
use Rattle.ipc_format_grammar.specs.flatbuffers.Reading.{◌>>=◌}
use Rattle.ipc_format_metadata.specs.Reading.{Refuses, Reads}

pub bind-some : {A : Type 0} (o : Option A) → (o >>= (λ x. Some x)) ≡ o
bind-some None = refl
bind-some (Some x) = refl

pub bind-assoc : {A B C : Type 0} (o : Option A) (f : A → Option B) (g : B → Option C) → ((o >>= f) >>= g) ≡ (o >>= (λ x. f x >>= g))
bind-assoc None f g = refl
bind-assoc (Some x) f g = refl

-- an error about a part is one about the whole
pub refuses-up : {A B : Type 0} (error : Error) (Unread : Type 0) (given : Option A) (Unread2 : Type 0) (given2 : Option B) →
    (given ≡ None → given2 ≡ None) → (Unread → Unread2)
    → Refuses Unread error given → Refuses Unread2 error given2
refuses-up (NotYetImplemented what) Unread given Unread2 given2 none unread h = (none h.0, unread h.1)
refuses-up (OutOfSpec what) Unread given Unread2 given2 none unread h = none h
refuses-up OutOfMemory Unread given Unread2 given2 none unread h = tt
refuses-up (InvalidArgumentError what) Unread given Unread2 given2 none unread h = h
refuses-up (ExternalFormat what) Unread given Unread2 given2 none unread h = h
refuses-up (External from what) Unread given Unread2 given2 none unread h = h
refuses-up (Io error) Unread given Unread2 given2 none unread h = h
refuses-up Overflow Unread given Unread2 given2 none unread h = h

-- an error about the first step
pub refuses-first : {A B : Type 0} (error : Error) (Unread : Type 0) (given : Option A) (Unread2 : Type 0) (rest : A → Option B) →
    (Unread → Unread2) → Refuses Unread error given → Refuses Unread2 error (given >>= rest)
refuses-first error Unread given Unread2 rest unread h = refuses-up error Unread given Unread2 (given >>= rest) (λ e. ap (λ o. o >>= rest) e) unread h

-- a reading of which nothing is unread is one of which something may be
pub reads-more : {A B : Type 0} (view : A → B) (result : Result A Error) (Unread : Type 0) (given : Option B) → Reads view ⊥ result given → Reads
    view Unread result given
reads-more view (Ok read) Unread given h = h
reads-more view (Err error) Unread given h = refuses-up error ⊥ given Unread given (λ e. e) (λ never. absurd never) h

-- a reading of what is given under another name
pub reads-up : {A B : Type 0} (view : A → B) (result : Result A Error) (Unread : Type 0) (given : Option B) (Unread2 : Type 0) (given2 : Option B)
    → given2 ≡ given → (Unread → Unread2)
    → Reads view Unread result given → Reads view Unread2 result given2
reads-up view (Ok read) Unread given Unread2 given2 e unread h = e ∙ h
reads-up view (Err error) Unread given Unread2 given2 e unread h = refuses-up error Unread given Unread2 given2 (λ none. e ∙ none) unread h
