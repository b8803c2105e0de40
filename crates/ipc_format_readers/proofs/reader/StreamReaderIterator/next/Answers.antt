-- What a turn gives is told by the count of failures.
use Rattle.std.proofs.Common.{◌≡◌, ℕ, Bool, true, false, rules, refl, subst}
use Rattle.std.specs.Prelude.{None, Some, Ok, Err, Result, Option}
use Rattle.ipc_format_chunk_writing.specs.ReadArrays.{standing_in}
use Rattle.ipc_format_chunk_writing.specs.columnar_memory.declared.Error.{Error}
use Rattle.ipc_format_chunk_writing.specs.streams.Starts.{IsReadOutcome}
use Rattle.ipc_format_readers.specs.Asking.{asked_of}
use Rattle.ipc_format_readers.specs.Readings.{NextGives, Reading, Takes, TakesUnfailed}
use Rattle.ipc_format_readers.specs.declared.state.StreamState.{StreamState}
use Rattle.ipc_format_readers.proofs.Nexts.{goes_on, told_of_turn}
use Rattle.ipc_format_readers.proofs.Turning.{spot_of}
use Rattle.ipc_format_readers.proofs.reader.StreamReaderIterator.next.Goals as goal

-- the outcome by what the device is and counts
counted : (found answered : Result (Option StreamState) Error) (asked is : Bool) (before after old new : ℕ) → asked ≡ is → before ≡ old → after ≡ new
    → IsReadOutcome found asked before after answered → IsReadOutcome found is old new answered
counted found answered asked is before after old new memory first then told =
    subst (λ (n : ℕ). IsReadOutcome found is old n answered) then (subst (λ (n : ℕ). IsReadOutcome found is n after answered) first
    (subst (λ (b : Bool). IsReadOutcome found b before after answered) memory told))

pub returns-in-Ok-Some-clause-steps : goal.returns-in-Ok-Some-clause-steps
returns-in-Ok-Some-clause-steps g c =
    let inside = c.self.inside in
    let left = c.take_asked-found.new in
    let old : Reading = record {
      spot = spot_of inside.standing.held.items (g.R.Read.remaining inside.device) (standing_in inside.standing.dictionaries)
          inside.standing.in_a_row;
      failures = g.R.Faults.failures inside.device;
      metadata = inside.metadata;
      columns = asked_of inside.asked;
      is_finished = inside.is_finished;
    } in
    let new : Reading = record {
      spot = spot_of left.standing.held.items (g.R.Read.remaining left.device) (standing_in left.standing.dictionaries) left.standing.in_a_row;
      failures = g.R.Faults.failures left.device;
      metadata = inside.metadata;
      columns = asked_of inside.asked;
      is_finished = inside.is_finished;
    } in
    let found = c.take_asked-found.result in
    let answered : Result (Option StreamState) Error = Ok c.in-Ok-Some.field-0 in
    let takes : Takes old new found = search rules in
    let told = counted found answered _ g.R.Faults.in_memory _ _ old.failures new.failures c.is_memory-is_memory.ensures c.faults-before.ensures
    c.faults.ensures c.in-Ok-Some.ensures in
    let is : old.is_finished ≡ false = c.if-self.false in
    let unfailed = subst (λ (it : Option StreamState). TakesUnfailed g.R.Faults.in_memory old new (Ok it)) c.in-Ok-Some.field-0-is
    (told_of_turn g.R.Faults.in_memory old new found answered takes told) in
    let gives = goes_on g.R.Faults.in_memory old new (Some (Ok c.in-Ok-Some.state)) refl refl is (is, unfailed) in
    subst (λ (before : Reading). NextGives g.R.Faults.in_memory before (Some (Ok c.in-Ok-Some.state)) new) c.self.view_is gives

pub returns-in-Ok-None-clause-steps : goal.returns-in-Ok-None-clause-steps
returns-in-Ok-None-clause-steps g c =
    let inside = c.self.inside in
    let left = c.take_asked-found.new in
    let old : Reading = record {
      spot = spot_of inside.standing.held.items (g.R.Read.remaining inside.device) (standing_in inside.standing.dictionaries)
          inside.standing.in_a_row;
      failures = g.R.Faults.failures inside.device;
      metadata = inside.metadata;
      columns = asked_of inside.asked;
      is_finished = inside.is_finished;
    } in
    let new : Reading = record {
      spot = spot_of left.standing.held.items (g.R.Read.remaining left.device) (standing_in left.standing.dictionaries) left.standing.in_a_row;
      failures = g.R.Faults.failures left.device;
      metadata = inside.metadata;
      columns = asked_of inside.asked;
      is_finished = true;
    } in
    let found = c.take_asked-found.result in
    let answered : Result (Option StreamState) Error = Ok c.in-Ok-None.field-0 in
    let takes : Takes old new found = search rules in
    let told = counted found answered _ g.R.Faults.in_memory _ _ old.failures new.failures c.is_memory-is_memory.ensures c.faults-before.ensures
    c.faults.ensures c.in-Ok-None.ensures in
    let is : old.is_finished ≡ false = c.if-self.false in
    let unfailed = subst (λ (it : Option StreamState). TakesUnfailed g.R.Faults.in_memory old new (Ok it)) c.in-Ok-None.field-0-is
    (told_of_turn g.R.Faults.in_memory old new found answered takes told) in
    let gives = goes_on g.R.Faults.in_memory old new None refl refl is (refl, unfailed) in
    subst (λ (before : Reading). NextGives g.R.Faults.in_memory before None new) c.self.view_is gives

pub returns-in-Err-clause-steps : goal.returns-in-Err-clause-steps
returns-in-Err-clause-steps g c =
    let inside = c.self.inside in
    let left = c.take_asked-found.new in
    let old : Reading = record {
      spot = spot_of inside.standing.held.items (g.R.Read.remaining inside.device) (standing_in inside.standing.dictionaries)
          inside.standing.in_a_row;
      failures = g.R.Faults.failures inside.device;
      metadata = inside.metadata;
      columns = asked_of inside.asked;
      is_finished = inside.is_finished;
    } in
    let new : Reading = record {
      spot = spot_of left.standing.held.items (g.R.Read.remaining left.device) (standing_in left.standing.dictionaries) left.standing.in_a_row;
      failures = g.R.Faults.failures left.device;
      metadata = inside.metadata;
      columns = asked_of inside.asked;
      is_finished = true;
    } in
    let found = c.take_asked-found.result in
    let answered : Result (Option StreamState) Error = Err c.in-Err.error in
    let takes : Takes old new found = search rules in
    let told = counted found answered _ g.R.Faults.in_memory _ _ old.failures new.failures c.is_memory-is_memory.ensures c.faults-before.ensures
    c.faults.ensures c.in-Err.ensures in
    let is : old.is_finished ≡ false = c.if-self.false in
    let gives = goes_on g.R.Faults.in_memory old new (Some (Err c.in-Err.error)) refl refl is
    (refl, told_of_turn g.R.Faults.in_memory old new found answered takes told) in
    subst (λ (before : Reading). NextGives g.R.Faults.in_memory before (Some (Err c.in-Err.error)) new) c.self.view_is gives
