-- A message that a node owes is covered where it may leave.
use Rattle.std.proofs.Common.{◌≡◌, ◌⊎◌, inl, inr, ◌<◌, ℕ, true, List, get_or, ap, sym, subst, ◌∙◌, refl, Option, Some, None}
use Rattle.std.specs.Prelude.{All, Contains, IsTrue, find, nat_lt}
use Rattle.std.specs.Option.{option_map_or}
use Rattle.std.proofs.lemmas.Bool.{ltb-true}
use Rattle.rr_types.specs.declared.message.Message.{Message}
use Rattle.rr_model.specs.NodeState.{Owed}
use Rattle.rr_model.specs.NodeStep.{may_leave}
use Rattle.rr_model.proofs.NodeStages.{found_passes}
use Rattle.rr_state.specs.Owing.{is_free, IsOwn}
use Rattle.rr_core.specs.Covered.{IsCovered}
use Rattle.rr_core.specs.Marks.{Marked, IsFreeOrBacked}

covered : (node end : ℕ) (o : Owed) → IsOwn node o → IsCovered node end o
covered node end o own = (own.0, λ leaves. by o.backing refl leaves)
  where
    by : (b : Option ℕ) → o.backing ≡ b → may_leave end o ≡ true → IsTrue (is_free o.message.body) ⊎ ((k : ℕ) × (o.backing ≡ Some k) × (k < end))
    by None f leaves = inl (own.1 f)
    by (Some j) f leaves = inr (j, f, ltb-true _ _ (ap (λ (b : Option ℕ). option_map_or (λ i. nat_lt i end) b true) (sym f) ∙ leaves))

pub all_covered : (node end : ℕ) (os : List Owed) → All (IsOwn node) os → All (IsCovered node end) os
all_covered node end os own k d l = covered node end (get_or os k d) (own k d l)

-- the oldest that may leave may leave
pub found_leaves : (end : ℕ) (os : List Owed) (o : Owed) → find (may_leave end) os ≡ Some o → may_leave end o ≡ true
found_leaves end os o e = (found_passes (may_leave end) os o e).1

-- it is free, or backed by a fact that the mark covers
pub found_backed : (m : Marked) (os : List Owed) (o : Owed) (said : Message) → find (may_leave m.end) os ≡ Some o → IsOwn m.node o → said ≡ o.message → IsFreeOrBacked m os said
found_backed m os o said found own e = rw e record { own = own.0; backed = by o.backing refl }
  where
    passes : Contains os o × (may_leave m.end o ≡ true)
    passes = found_passes (may_leave m.end) os o found

    by : (b : Option ℕ) → o.backing ≡ b → IsTrue (is_free o.message.body) ⊎ ((j : ℕ) × (j < m.end) × Contains os (record { message = o.message; backing = Some j }))
    by None f = inl (own.1 f)
    by (Some j) f =
        let is : o ≡ record { message = o.message; backing = Some j } = ap (λ (b : Option ℕ). record { message = o.message; backing = b }) f in
        inr (j, ltb-true _ _ (ap (λ (b : Option ℕ). option_map_or (λ i. nat_lt i m.end) b true) (sym f) ∙ passes.1), subst (Contains os) is passes.0)
