-- What was told is true by a list for each node, and stays true as the lists grow and more is told.
use Rattle.std.proofs.Common.{◌≡◌, ℕ, ◌≤◌, inl, inr, suc, true, List, [], ◌∷◌, ◌++◌, length, take, Contains, Some, refl, ap, sym, ◌∙◌, subst, arith, take_all, length-append}
use Rattle.std.proofs.lemmas.List.{take-append-le}
use Rattle.std.proofs.lemmas.List.Elements.{Contains-push_cases}
use Rattle.rr_types.specs.declared.command.Command.{Command}
use Rattle.rr_types.specs.declared.command.RequestNo.{RequestNo}
use Rattle.rr_types.specs.declared.command.Reply.{Reply}
use Rattle.rr_types.specs.declared.message.Message.{Message}
use Rattle.rr_types.specs.Registry.{has_request, Bindings, registry_of, reply_of}
use Rattle.rr_model.specs.World.{Told, Sent, Acknowledged, Reported}
use Rattle.rr_model.proofs.Places.{place_push}
use Rattle.rr_model.proofs.Prefixes.{Begins}
use Rattle.rr_model.proofs.Replies.{same_reply, reply_holds}

-- all that was told is true by these lists, one a node
pub record Truthful (trace : List Told) (list : ℕ → List Command) : Type 0 where
  pub acknowledged : (p : ℕ) (q : RequestNo) (r : Reply) → Contains trace (Acknowledged p q r) → reply_of (list p) q ≡ Some r
  pub reported : (p count : ℕ) (entries : Bindings) → Contains trace (Reported p count entries) → (count ≤ length (list p)) × (entries ≡ registry_of (take count (list p)))
  pub held : (a b : List Told) (p count : ℕ) (entries : Bindings) → trace ≡ a ++ Reported p count entries ∷ b → (q : RequestNo) (r : Reply) → Contains a (Acknowledged p q r) → has_request (take count (list p)) q ≡ true

report_in : (a b : List Told) (x : Told) → Contains (a ++ x ∷ b) x
report_in [] b x = (0, omega arith, refl)
report_in (y ∷ a) b x = let r : Contains (a ++ x ∷ b) x = report_in a b x in (suc r.0, omega arith, r.2)

same_front : (count : ℕ) (xs ys : List Command) → Begins xs ys → count ≤ length xs → take count ys ≡ take count xs
same_front count xs ys b l = ap (take count) (sym b.is) ∙ take-append-le count xs b.rest l

longer : (count : ℕ) (xs ys : List Command) → Begins xs ys → count ≤ length xs → count ≤ length ys
longer count xs ys b l = let e : length (xs ++ b.rest) ≡ length ys = ap length b.is in omega (arith, length-append xs b.rest, e)

-- it stays true by longer lists
pub truthful_grows : (trace : List Told) (list more : ℕ → List Command) → ((p : ℕ) → Begins (list p) (more p)) → Truthful trace list → Truthful trace more
truthful_grows trace list more B T = record {
  acknowledged = λ p q r c. subst (λ z. reply_of z q ≡ Some r) ((B p).is) (same_reply (list p) (B p).rest q r (T.acknowledged p q r c));
  reported = λ p count entries c.
      let t : (count ≤ length (list p)) × (entries ≡ registry_of (take count (list p))) = T.reported p count entries c in
      (longer count (list p) (more p) (B p) t.0, t.1 ∙ ap registry_of (sym (same_front count (list p) (more p) (B p) t.0)));
  held = λ a b p count entries e q r c.
      let t : (count ≤ length (list p)) × (entries ≡ registry_of (take count (list p))) = T.reported p count entries (subst (λ z. Contains z (Reported p count entries)) (sym e) (report_in a b (Reported p count entries))) in
      subst (λ z. has_request z q ≡ true) (sym (same_front count (list p) (more p) (B p) t.0)) (T.held a b p count entries e q r c);
}

-- a message more
pub truthful_sent : (trace : List Told) (list : ℕ → List Command) (m : Message) → Truthful trace list → Truthful (trace ++ Sent m ∷ []) list
truthful_sent trace list m T = record {
  acknowledged = λ p q r c. elim (Contains-push_cases trace (Sent m) (Acknowledged p q r) c) [ inl x ↦ T.acknowledged p q r x | inr e ↦ absurd (cc) ];
  reported = λ p count entries c. elim (Contains-push_cases trace (Sent m) (Reported p count entries) c) [ inl x ↦ T.reported p count entries x | inr e ↦ absurd (cc) ];
  held = λ a b p count entries e q r c. elim (place_push a b trace (Reported p count entries) (Sent m) e) [ inl s ↦ absurd (let z : Reported p count entries ≡ Sent m = s.1 in cc) | inr x ↦ T.held a x.0 p count entries x.1 q r c ];
}

-- an acknowledgement more
pub truthful_acknowledged : (trace : List Told) (list : ℕ → List Command) (n : ℕ) (k : RequestNo) (reply : Reply) → reply_of (list n) k ≡ Some reply → Truthful trace list → Truthful (trace ++ Acknowledged n k reply ∷ []) list
truthful_acknowledged trace list n k reply t T = record {
  acknowledged = λ p q r c. elim (Contains-push_cases trace (Acknowledged n k reply) (Acknowledged p q r) c) [
    | inl x ↦ T.acknowledged p q r x
    | inr e ↦ (let x : n ≡ p = cc in let y : k ≡ q = cc in let z : reply ≡ r = cc in subst (λ j. reply_of (list j) q ≡ Some r) x (subst (λ j. reply_of (list n) j ≡ Some r) y (subst (λ j. reply_of (list n) k ≡ Some j) z t)))
  ];
  reported = λ p count entries c. elim (Contains-push_cases trace (Acknowledged n k reply) (Reported p count entries) c) [ inl x ↦ T.reported p count entries x | inr e ↦ absurd (cc) ];
  held = λ a b p count entries e q r c. elim (place_push a b trace (Reported p count entries) (Acknowledged n k reply) e) [ inl s ↦ absurd (let z : Reported p count entries ≡ Acknowledged n k reply = s.1 in cc) | inr x ↦ T.held a x.0 p count entries x.1 q r c ];
}

-- a report more
pub truthful_reported : (trace : List Told) (list : ℕ → List Command) (n : ℕ) → Truthful trace list → Truthful (trace ++ Reported n (length (list n)) (registry_of (list n)) ∷ []) list
truthful_reported trace list n T = record {
  acknowledged = λ p q r c. elim (Contains-push_cases trace (Reported n (length (list n)) (registry_of (list n))) (Acknowledged p q r) c) [ inl x ↦ T.acknowledged p q r x | inr e ↦ absurd (cc) ];
  reported = λ p count entries c. elim (Contains-push_cases trace (Reported n (length (list n)) (registry_of (list n))) (Reported p count entries) c) [
    | inl x ↦ T.reported p count entries x
    | inr e ↦ (let x : n ≡ p = cc in let y : length (list n) ≡ count = cc in let z : registry_of (list n) ≡ entries = cc in whole p count entries x y z)
  ];
  held = λ a b p count entries e q r c. elim (place_push a b trace (Reported p count entries) (Reported n (length (list n)) (registry_of (list n))) e) [
    | inl s ↦ (let f : Reported p count entries ≡ Reported n (length (list n)) (registry_of (list n)) = s.1 in let x : p ≡ n = cc in let y : count ≡ length (list n) = cc in
        all_held p count x y q r (T.acknowledged p q r (subst (λ z. Contains z (Acknowledged p q r)) s.0 c)))
    | inr x ↦ T.held a x.0 p count entries x.1 q r c
  ];
}
  where
    taken : (p count : ℕ) → p ≡ n → count ≡ length (list n) → take count (list p) ≡ list p
    taken p count x y = take_all count (list p) (let e : length (list p) ≡ length (list n) = ap (λ z. length (list z)) x in omega arith)

    whole : (p count : ℕ) (entries : Bindings) → n ≡ p → length (list n) ≡ count → registry_of (list n) ≡ entries → (count ≤ length (list p)) × (entries ≡ registry_of (take count (list p)))
    whole p count entries x y z = ((let e : length (list p) ≡ length (list n) = ap (λ j. length (list j)) (sym x) in omega arith), sym z ∙ ap (λ j. registry_of (list j)) x ∙ ap registry_of (sym (taken p count (sym x) (sym y))))

    all_held : (p count : ℕ) → p ≡ n → count ≡ length (list n) → (q : RequestNo) (r : Reply) → reply_of (list p) q ≡ Some r → has_request (take count (list p)) q ≡ true
    all_held p count x y q r e = subst (λ z. has_request z q ≡ true) (sym (taken p count x y)) (reply_holds (list p) q r e)
