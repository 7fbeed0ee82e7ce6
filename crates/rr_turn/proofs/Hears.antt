-- What is heard, message by message.
use Rattle.std.proofs.Common.{◌≡◌, ◌∙◌, ◌≤◌, ◌++◌, ◌∷◌, [], ◌+◌, ℕ, List, Option, Some, None, Result, Bool, true, false, length, nat_lt, refl, sym, ap, subst, cond, append_assoc, arith}
use Rattle.std.specs.Prelude.{◌==◌, OnOk}
use Rattle.rr_types.specs.declared.refusal.Refusal.{Refusal}
use Rattle.rr_model.specs.NodeState.{NodeState, decided_prefix}
use Rattle.rr_turn.specs.Recorded.{Sent}
use Rattle.rr_turn.specs.Chases.{Chase, heard_of}
use Rattle.rr_turn.specs.declared.chase.Hearing.{Hearing}
use Rattle.rr_turn.specs.Asked.{Call, takes, Ran, still, more}
use Rattle.rr_turn.specs.Turns.{takes_each, met, met_chase, hearing, meeting, all_met, all_met_chase}
use Rattle.rr_turn.specs.Looks.{Hears, MeetsAny}
use Rattle.rr_turn.proofs.Runs.{run_more, run_join}
use Rattle.rr_turn.proofs.Sends.{length_more}
use Rattle.rr_turn.proofs.TickLaws.{ok_both}

met_more : (s : NodeState) (c : Chase) (sents : List Sent) (sent : Sent) → all_met (sents ++ sent ∷ []) s c ≡ met sent (all_met sents s c) (all_met_chase sents s c)
met_more s c [] sent = refl
met_more s c (x ∷ xs) sent = met_more (met x s c) (met_chase x s c) xs sent

met_chase_more : (s : NodeState) (c : Chase) (sents : List Sent) (sent : Sent) → all_met_chase (sents ++ sent ∷ []) s c ≡ met_chase sent (all_met sents s c) (all_met_chase sents s c)
met_chase_more s c [] sent = refl
met_chase_more s c (x ∷ xs) sent = met_chase_more (met x s c) (met_chase x s c) xs sent

append_none : {A : Type 0} (xs : List A) → xs ++ [] ≡ xs
append_none [] = refl
append_none (x ∷ xs) = ap (λ l. x ∷ l) (append_none xs)

takes_more : (sents : List Sent) (sent : Sent) (s : NodeState) (c : Chase)
    → takes_each (sents ++ sent ∷ []) s c ≡ takes_each sents s c ++ (takes (Some sent) ∷ meeting sent (all_met sents s c) (all_met_chase sents s c))
takes_more [] sent s c = ap (λ l. takes (Some sent) ∷ l) (append_none (meeting sent s c))
takes_more (x ∷ xs) sent s c =
    let s' = met x s c in
    let c' = met_chase x s c in
    ap (λ l. takes (Some x) ∷ (meeting x s c ++ l)) (takes_more xs sent s' c')
    ∙ ap (λ l. takes (Some x) ∷ l) (sym (append_assoc (meeting x s c) (takes_each xs s' c') (takes (Some sent) ∷ meeting sent (all_met xs s' c') (all_met_chase xs s' c'))))

is_full : (n most : ℕ) → n ≡ most → (n == most) ≡ true
is_full n most e = grind arith

module _ {L : Type 0} (gives : L → Call → L → Type 0) where
  -- the calls by which a message that has come is heard
  pub meets_by : (sent : Sent) (s : NodeState) (c : Chase) (h : Hearing) (n : ℕ) (from to : L) → n ≡ length (decided_prefix s) → h ≡ heard_of n sent.message.body c
      → Ran gives (hearing h sent s) from to → Ran gives (meeting sent s c) from to
  meets_by sent s c h n from to count same ran = subst (λ h. Ran gives (hearing h sent s) from to) (same ∙ ap (λ n. heard_of n sent.message.body c) count) ran

  -- so many messages were heard
  pub record HasHeard (n : ℕ) (has : Bool) (old now : NodeState) (before c : Chase) (from to : L) : Type 0 where
    pub sents : List Sent
    pub count : length sents ≡ n
    pub answer : has ≡ nat_lt 0 n
    pub calls : Ran gives (takes_each sents old before) from to
    pub state : now ≡ all_met sents old before
    pub chase : c ≡ all_met_chase sents old before

  pub hear_more : (n : ℕ) (has : Bool) (old now : NodeState) (before c : Chase) (from to : L) (sent : Sent) (new : NodeState) (then : Chase) (mid end : L)
      → HasHeard n has old now before c from to
      → gives to (takes (Some sent)) mid → Ran gives (meeting sent now c) mid end → new ≡ met sent now c → then ≡ met_chase sent now c → HasHeard (n + 1) true old new before then from end
  hear_more n has old now before c from to sent new then mid end did took heard step chased =
      let here = all_met did.sents old before in
      let key = all_met_chase did.sents old before in
      record {
        sents = did.sents ++ sent ∷ [];
        count = length_more did.sents sent ∙ ap (λ n. n + 1) did.count;
        answer = grind arith;
        calls = subst (λ cs. Ran gives cs from end) (sym (takes_more did.sents sent old before))
            (run_join gives (takes_each did.sents old before) (takes (Some sent) ∷ meeting sent here key) from to end did.calls
            (more (takes (Some sent)) (meeting sent here key) to mid end took
            (subst (λ cs. Ran gives cs mid end) (ap (λ s. meeting sent s c) did.state ∙ ap (λ k. meeting sent here k) did.chase) heard)));
        state = step ∙ ap (λ s. met sent s c) did.state ∙ ap (λ k. met sent here k) did.chase ∙ sym (met_more old before did.sents sent);
        chase = chased ∙ ap (λ s. met_chase sent s c) did.state ∙ ap (λ k. met_chase sent here k) did.chase ∙ sym (met_chase_more old before did.sents sent);
      }

  pub hear_none : (n most : ℕ) (has : Bool) (old now : NodeState) (before c : Chase) (from to end : L) → HasHeard n has old now before c from to
      → (n == most) ≡ false → n ≤ most → gives to (takes None) end → Hears gives old now most has before from c end
  hear_none n most has old now before c from to end did fewer few took = record {
    sents = did.sents;
    few = subst (λ k. k ≤ most) (sym did.count) few;
    calls = subst (λ b. Ran gives (takes_each did.sents old before ++ cond b [] (takes None ∷ [])) from end) (sym (ap (λ k. k == most) did.count ∙ fewer))
        (run_more gives (takes_each did.sents old before) (takes None) from to end did.calls took);
    after = did.state;
    chase = did.chase;
    answer = did.answer ∙ ap (λ k. nat_lt 0 k) (sym did.count);
  }

  pub hear_full : (n most : ℕ) (has : Bool) (old now : NodeState) (before c : Chase) (from to : L) → n ≡ most → HasHeard n has old now before c from to → Hears gives old now most has before from c to
  hear_full n most has old now before c from to full did = record {
    sents = did.sents;
    few = omega (arith, did.count, full);
    calls = subst (λ b. Ran gives (takes_each did.sents old before ++ cond b [] (takes None ∷ [])) from to) (sym (is_full (length did.sents) most (did.count ∙ full)))
        (run_join gives (takes_each did.sents old before) [] from to to did.calls (still to));
    after = did.state;
    chase = did.chase;
    answer = did.answer ∙ ap (λ k. nat_lt 0 k) (sym did.count);
  }

  -- a message that is there comes
  pub meets_one : (r : Result (Unit {0}) Refusal) (o : Option Sent) (sent : Sent) (s : NodeState) (c : Chase) (from : L) (t : NodeState) (k : Chase) (to : L) → o ≡ Some sent
      → OnOk r (Ran gives (meeting sent s c) from to) → OnOk r (t ≡ met sent s c) → k ≡ met_chase sent s c → OnOk r (MeetsAny gives o s c from t k to)
  meets_one r o sent s c from t k to is ran step chased =
      subst (λ o. OnOk r (MeetsAny gives o s c from t k to)) (sym is) (ok_both r (λ calls after. record { calls = calls; after = after; chase = chased }) ran step)
