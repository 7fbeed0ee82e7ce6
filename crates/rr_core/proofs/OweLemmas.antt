-- Messages to one more node.
use Rattle.std.proofs.Common.{◌≡◌, ℕ, zero, suc, ◌+◌, Bool, true, false, cond, eqb, List, [], ◌∷◌, ◌++◌, Option, None, sym, ap, ◌∙◌, refl, arith, append_assoc, append-nil}
use Rattle.std.specs.Prelude.{not, All, IsTrue}
use Rattle.std.specs.List.{range_with_len}
use Rattle.std.proofs.lemmas.Bool.{true≢false}
use Rattle.std.proofs.lemmas.List.{map-append}
use Rattle.std.proofs.lemmas.List.Elements.{filter-append, All-append, All-map}
use Rattle.rr_types.specs.declared.message.Body.{Body}
use Rattle.rr_model.specs.NodeState.{Owed}
use Rattle.rr_model.specs.NodeParts.{messages_to}
use Rattle.rr_state.specs.Owing.{is_free, IsOwn}
use Rattle.rr_core.specs.declared.owing.Reach.{Reach}
use Rattle.rr_core.specs.declared.owing.Reach.TheVariants.{Everyone, Others}
use Rattle.rr_core.specs.Places.{message_to, nodes_beside, reached, is_reached}

range_push : (a n : ℕ) → range_with_len a (suc n) ≡ range_with_len a n ++ (a + n) ∷ []
range_push a zero = let e : a + 0 ≡ a = omega arith in rw e
range_push a (suc n) = let e : a + 1 + n ≡ a + suc n = omega arith in ap (λ (t : List ℕ). a ∷ t) (range_push (a + 1) n ∙ rw e)

-- the numbers below n + 1
range_more : (n : ℕ) → range_with_len 0 (n + 1) ≡ range_with_len 0 n ++ n ∷ []
range_more n = let e : n + 1 ≡ suc n = omega arith in let f : 0 + n ≡ n = omega arith in rw e (range_push 0 n ∙ rw f)

-- messages to more nodes come behind
behind : (owed : List Owed) (from : ℕ) (body : Body) (backing : Option ℕ) (xs ys : List ℕ) → owed ++ messages_to from body backing (xs ++ ys) ≡ (owed ++ messages_to from body backing xs) ++ messages_to from body backing ys
behind owed from body backing xs ys = ap (λ t. owed ++ t) (map-append (λ to. message_to from to body backing) xs ys) ∙ sym (append_assoc owed _ _)

beside_more : (node n : ℕ) (b : Bool) → not (eqb n node) ≡ b → nodes_beside node (n + 1) ≡ nodes_beside node n ++ cond b (n ∷ []) []
unfolding nodes_beside
beside_more node n true e = rw (range_more n) (filter-append (λ q. not (eqb q node)) (range_with_len 0 n) (n ∷ []) ∙ rw e)
beside_more node n false e = rw (range_more n) (filter-append (λ q. not (eqb q node)) (range_with_len 0 n) (n ∷ []) ∙ rw e)

pub reached_none : (owed : List Owed) (reach : Reach) (node : ℕ) (body : Body) (backing : Option ℕ) → owed ++ messages_to node body backing (reached reach node 0) ≡ owed
unfolding nodes_beside
reached_none owed Everyone node body backing = append-nil owed
reached_none owed Others node body backing = append-nil owed

-- a body that doesn't go to n: to those below n
pub reached_not : (reach : Reach) (node n : ℕ) → is_reached reach node n ≡ false → reached reach node (n + 1) ≡ reached reach node n
reached_not Everyone node n e = absurd (true≢false e)
reached_not Others node n e = beside_more node n false e ∙ append-nil _

-- a body that goes to n: to those below n, and then to n
pub reached_more : (owed : List Owed) (reach : Reach) (node n : ℕ) (body : Body) (backing : Option ℕ) → is_reached reach node n ≡ true → owed ++ messages_to node body backing (reached reach node (n + 1)) ≡ (owed ++ messages_to node body backing (reached reach node n)) ++ message_to node n body backing ∷ []
reached_more owed Everyone node n body backing e = rw (range_more n) (behind owed node body backing (range_with_len 0 n) (n ∷ []))
reached_more owed Others node n body backing e = rw (beside_more node n true e) (behind owed node body backing (nodes_beside node n) (n ∷ []))

-- more messages of the node's own
pub own_more : (node : ℕ) (owed : List Owed) (body : Body) (backing : Option ℕ) (to : List ℕ) → (backing ≡ None → IsTrue (is_free body)) → All (IsOwn node) owed → All (IsOwn node) (owed ++ messages_to node body backing to)
own_more node owed body backing to free own = All-append (IsOwn node) owed (messages_to node body backing to) own (All-map (IsOwn node) (λ q. message_to node q body backing) to (λ k d l. (refl, free)))

pub own_last : (node : ℕ) (owed : List Owed) (to : ℕ) (body : Body) (backing : Option ℕ) → (backing ≡ None → IsTrue (is_free body)) → All (IsOwn node) owed → All (IsOwn node) (owed ++ message_to node to body backing ∷ [])
own_last node owed to body backing free own = own_more node owed body backing (to ∷ []) free own
