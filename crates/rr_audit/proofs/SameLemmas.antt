-- Messages that are the same field by field are one.
use Rattle.std.proofs.Common.{◌≡◌, ℕ, Bool, true, false, ◌&&◌, ◌==◌, ap, sym, ◌∙◌, refl, IsTrue}
use Rattle.std.proofs.lemmas.Bool.{eqb-true, eq-eqb, false≢true}
use Rattle.rr_types.specs.declared.command.Command.{Command}
use Rattle.rr_types.specs.declared.message.Body.{Body}
use Rattle.rr_types.specs.declared.message.Body.TheVariants.{Estimate, Proposal, Ack, Decision, Request, Nack, Beat, Suspects, Ask}
use Rattle.rr_types.specs.declared.message.Message.{Message}
use Rattle.rr_types.specs.Commands.{is_same_command}
use Rattle.rr_types.specs.Rounds.{Estimated}
use Rattle.rr_model.proofs.SameCommands.{same_command, command_same}
use Rattle.rr_audit.specs.Same.{is_same_estimate, is_same_body, is_same_message}

and_left : (a b : Bool) → (a && b) ≡ true → a ≡ true
and_left true b h = refl
and_left false b h = h

and_right : (a b : Bool) → (a && b) ≡ true → b ≡ true
and_right true b h = h
and_right false b h = absurd (false≢true h)

both : (a b : Bool) → a ≡ true → b ≡ true → (a && b) ≡ true
both a b h k = rw (h, k) refl

itself : (n : ℕ) → (n == n) ≡ true
itself n = eq-eqb n n refl

estimate_is : (e f : Estimated) → is_same_estimate e f ≡ true → e ≡ f
estimate_is e f h =
    let numbers : (e.round == f.round && e.stamp == f.stamp) ≡ true = and_left (e.round == f.round && e.stamp == f.stamp) _ h in
    let r : e.round ≡ f.round = eqb-true _ _ (and_left _ _ numbers) in
    let s : e.stamp ≡ f.stamp = eqb-true _ _ (and_right _ _ numbers) in
    let c : e.command ≡ f.command = same_command _ _ (and_right _ _ h) in
    λ k. record { round = r k; stamp = s k; command = c k }

estimate_same : (e : Estimated) → is_same_estimate e e ≡ true
estimate_same e = both _ _ (both _ _ (itself e.round) (itself e.stamp)) (command_same e.command)

body_is : (b c : Body) → is_same_body b c ≡ true → b ≡ c
body_is (Estimate i e) (Estimate j f) h = let a : i ≡ j = eqb-true _ _ (and_left _ _ h) in let b : e ≡ f = estimate_is e f (and_right _ _ h) in cc
body_is (Proposal i r v) (Proposal j q w) h =
    let a : i ≡ j = eqb-true _ _ (and_left _ _ (and_left (i == j && r == q) _ h)) in
    let b : r ≡ q = eqb-true _ _ (and_right _ _ (and_left (i == j && r == q) _ h)) in
    let c : v ≡ w = same_command v w (and_right _ _ h) in cc
body_is (Ack i r) (Ack j q) h = let a : i ≡ j = eqb-true _ _ (and_left _ _ h) in let b : r ≡ q = eqb-true _ _ (and_right _ _ h) in cc
body_is (Decision i v) (Decision j w) h = let a : i ≡ j = eqb-true _ _ (and_left _ _ h) in let b : v ≡ w = same_command v w (and_right _ _ h) in cc
body_is (Request v) (Request w) h = ap Request (same_command v w h)
body_is (Nack i r) (Nack j q) h = let a : i ≡ j = eqb-true _ _ (and_left _ _ h) in let b : r ≡ q = eqb-true _ _ (and_right _ _ h) in cc
body_is Beat Beat h = refl
body_is (Suspects s) (Suspects t) h = ap Suspects (eqb-true s t h)
body_is (Ask i) (Ask j) h = ap Ask (eqb-true i j h)
body_is _ _ h = absurd (false≢true h)

body_same : (b : Body) → is_same_body b b ≡ true
body_same (Estimate i e) = both _ _ (itself i) (estimate_same e)
body_same (Proposal i r v) = both _ _ (both _ _ (itself i) (itself r)) (command_same v)
body_same (Ack i r) = both _ _ (itself i) (itself r)
body_same (Decision i v) = both _ _ (itself i) (command_same v)
body_same (Request v) = command_same v
body_same (Nack i r) = both _ _ (itself i) (itself r)
body_same Beat = refl
body_same (Suspects s) = itself s
body_same (Ask i) = itself i

pub messages_are : (m o : Message) → is_same_message m o ≡ true → m ≡ o
messages_are m o h =
    let ends : (m.from == o.from && m.to == o.to) ≡ true = and_left (m.from == o.from && m.to == o.to) _ h in
    let f : m.from ≡ o.from = eqb-true _ _ (and_left _ _ ends) in
    let t : m.to ≡ o.to = eqb-true _ _ (and_right _ _ ends) in
    let b : m.body ≡ o.body = body_is m.body o.body (and_right _ _ h) in
    λ k. record { from = f k; to = t k; body = b k }

pub messages_are_same : (m o : Message) → m ≡ o → is_same_message m o ≡ true
messages_are_same m o e =
    let here : is_same_message m m ≡ true = both _ _ (both _ _ (itself m.from) (itself m.to)) (body_same m.body) in
    ap (is_same_message m) (sym e) ∙ here
