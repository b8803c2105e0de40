-- How `Items` holds its elements, so that a type may hold itself through it: as a list does.
--     the_former, the_weighed, the_empty     its values over another type's, their measure, and one with no element
--     the_items, the_items_listed            its elements in order, which are all that it holds
--     the_places, the_codes_placed           it owns and is stored as its vector is, element by element
use mathlib.Core.Path.{◌≡◌, refl, sym}
use mathlib.Core.List.{List, []}
use mathlib.Core.Former.{Former, this, list, via, children}
use base.Stored.{code_map}
use denote.RattleType.{RattleType}
use denote.HoleLaws.{Alike}
use denote.HolePlaces.{Recodes, struct_places, laid}
use denote.Hole.Carrier.{listed, list-listed}
use denote.Hole.Fix.{over}
use denote.Param.Weighed.{Weighed, w_list}
use denote.Model.Placed.{view_places}
use Rattle.std.specs.formers.vec.Vec as vec
use Rattle.std.specs.declared.alloc.Global.{Global}
use Rattle.std.specs.contracts.alloc.Global as global
use Rattle.std.specs.contracts.impls.GlobalAllocator.TheImpl as allocator
use Rattle.columnar_memory_types.specs.declared.items.Items.TheInside.{Inside}
use Rattle.columnar_memory_types.specs.declared.items.Items.TheView.{view, invariant}
use Rattle.columnar_memory_types.specs.contracts.items.Items as contract
use Rattle.columnar_memory_types.specs.contracts.items.Items.TheInside as inside

abbrev pub the_former : Former {0} → Former {0}
the_former = list

abbrev pub the_weighed : {g : Former {0}} → Weighed g → Weighed (the_former g)
the_weighed = w_list

pub the_empty : List ⊥
the_empty = []

abbrev pub the_items : (X : Type 0) → List X → List X
the_items X elements = elements

pub the_items_listed : (X : Type 0) (elements : List X) → listed _ (children (the_former this) X elements) ≡ the_items X elements
the_items_listed = list-listed

-- the one field, a vector over the same elements
abbrev the_field : Former {0}
the_field = via (vec.the_former this Global) Inside (λ X a. a.vec) (λ X v. record { vec = v }) (λ X a. refl) (λ X v. refl)

module _ (A B : RattleType) (h : A.Denot → B.Denot) where
  inside_places : Alike A B h → Alike (inside.the_row A) (inside.the_row B) (the_field.map A.Denot B.Denot h)
  inside_places alike =
      let of_vec = laid _ _ _ (vec.the_places global.the_row allocator.ghosts A B h alike) in
      struct_places (inside.the_type A) (inside.the_type B) (vec.mapped h, tt) (the_field.map A.Denot B.Denot h) (λ a. refl) refl (of_vec, tt)

  pub the_places : Alike A B h → Alike (contract.the_row A) (contract.the_row B) ((the_former this).map A.Denot B.Denot h)
  the_places alike =
      view_places the_field (the_former this) view (λ X Y k a. refl) (λ X a. refl) A.Denot B.Denot h
      (contract.the_row A).coded (contract.the_row B).coded (invariant A.Denot) (invariant B.Denot)
      (λ a p q. refl) (λ a p q. refl) (λ a p. tt) (λ a p. tt)
      (over (inside.the_row A)) (over (inside.the_row B)) (inside_places alike)

  pub the_codes_placed : Recodes A B h → Recodes (contract.the_row A) (contract.the_row B) ((the_former this).map A.Denot B.Denot h)
  the_codes_placed same elements = sym (code_map A.coded.code B.coded.code h (λ x. sym (same x)) elements)
