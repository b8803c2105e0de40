-- How `Boxed` holds its value, so that a type may hold itself through it: it is that value.
--     the_former, the_weighed         its values over another type's, and their measure
--     the_places, the_codes_placed    it owns and is stored as its box is
use mathlib.Core.Path.{refl}
use mathlib.Core.Former.{Former, this, const, pair, via}
use base.Stored.{gnil}
use base.Fml.{ftrue}
use denote.RattleType.{RattleType}
use denote.Memory.{part_of}
use denote.RawPtr.{Ptr}
use denote.Sharing.{nothing}
use denote.HoleLaws.{Alike}
use denote.HolePlaces.{Recodes, struct_places, laid, one_value}
use denote.Hole.Fix.{over}
use denote.Param.Weighed.{Weighed}
use denote.Model.Placed.{view_places}
use Rattle.std.specs.declared.boxed.Box.{Box}
use Rattle.std.specs.contracts.boxed.Box as box
use Rattle.std.specs.declared.alloc.Global.{Global}
use Rattle.std.specs.contracts.alloc.Global as global
use Rattle.std.specs.contracts.impls.GlobalAllocator.TheImpl as allocator
use Rattle.columnar_memory_types.specs.declared.boxed.Boxed.TheInside.{Inside}
use Rattle.columnar_memory_types.specs.declared.boxed.Boxed.TheView.{view, invariant}
use Rattle.columnar_memory_types.specs.contracts.boxed.Boxed as contract
use Rattle.columnar_memory_types.specs.contracts.boxed.Boxed.TheInside as inside

abbrev pub the_former : Former {0} → Former {0}
the_former g = g

abbrev pub the_weighed : {g : Former {0}} → Weighed g → Weighed (the_former g)
the_weighed w = w

-- the same box round another value
abbrev rebox : {X Y : Type 0} → Box X Global → Y → Box Y Global
rebox b value = record { ptr = b.ptr; alloc = b.alloc; value = value }

-- the one field, a box: where it lies, and the value
abbrev the_field : Former {0}
the_field =
    via (pair (const (Ptr × Global)) this) Inside (λ X a. ((a.boxed.ptr, a.boxed.alloc), a.boxed.value))
    (λ X v. record { boxed = record { ptr = v.0.0; alloc = v.0.1; value = v.1 } }) (λ X a. refl) (λ X v. refl)

-- a box of a type
abbrev row : RattleType → RattleType
row T = box.the_row T global.the_row allocator.ghosts

module _ (A B : RattleType) (h : A.Denot → B.Denot) where
  box_places : Alike A B h → Alike (row A) (row B) (λ b. rebox b (h b.value))
  unfolding part_of
  box_places alike = record {
    mir_same = λ i. (row (one_value A (alike.mir_same i) (λ _. ftrue) (λ _ _. nothing) gnil)).mir;
    own_same = λ b i. (row (one_value A (alike.mir_same i) (alike.own_same b.value i) (alike.shr_same b.value i) gnil)).own_val (rebox b tt);
    shr_same = λ b i. (row (one_value A (alike.mir_same i) (alike.own_same b.value i) (alike.shr_same b.value i) gnil)).shr_at (rebox b tt);
  }

  inside_places : Alike A B h → Alike (inside.the_row A) (inside.the_row B) (the_field.map A.Denot B.Denot h)
  inside_places alike =
      struct_places (inside.the_type A) (inside.the_type B) ((λ b. rebox b (h b.value)), tt) (the_field.map A.Denot B.Denot h) (λ a. refl) refl
      (laid _ _ _ (box_places alike), tt)

  pub the_places : Alike A B h → Alike (contract.the_row A) (contract.the_row B) ((the_former this).map A.Denot B.Denot h)
  the_places alike =
      view_places the_field this view (λ X Y k a. refl) (λ X a. refl) A.Denot B.Denot h
      (contract.the_row A).coded (contract.the_row B).coded (invariant A.Denot) (invariant B.Denot)
      (λ a p q. refl) (λ a p q. refl) (λ a p. tt) (λ a p. tt)
      (over (inside.the_row A)) (over (inside.the_row B)) (inside_places alike)

  pub the_codes_placed : Recodes A B h → Recodes (contract.the_row A) (contract.the_row B) ((the_former this).map A.Denot B.Denot h)
  the_codes_placed same value = same value
