-- What is sent, message by message.
use Rattle.std.proofs.Common.{◌≡◌, ◌∙◌, ◌++◌, ◌∷◌, [], ◌+◌, ◌<◌, ℕ, zero, suc, List, None, Some, Bool, true, false, length, nat_lt, refl, sym, ap, subst, cond, append_assoc, arith}
use Rattle.std.proofs.lemmas.Bool.Decides.{nat_tests}
use Rattle.std.specs.Prelude.{map, ◌==◌}
use Rattle.std.specs.Option.{option_map_or}
use Rattle.rr_types.specs.Nodes.{has_member}
use Rattle.rr_types.specs.declared.message.Message.{Message}
use Rattle.rr_model.specs.NodeState.{NodeState}
use Rattle.rr_model.specs.NodeStep.{next_leaving, message_left}
use Rattle.rr_turn.specs.Recorded.{Sent}
use Rattle.rr_turn.specs.Chases.{Chase}
use Rattle.rr_turn.specs.Asked.{Call, leaves, rings, Ran, still, more}
use Rattle.rr_turn.specs.Turns.{leaving, left, left_after, puts_each, put_of, woken_by, woken_with, noted, noted_one, rings_from}
use Rattle.rr_turn.specs.Looks.{Puts}
use Rattle.rr_turn.proofs.Runs.{run_join, run_more}

leaving_more : (n : ℕ) (s : NodeState) (m : Message) → next_leaving s ≡ Some m → leaving (suc n) s ≡ m ∷ leaving n (message_left s)
unfolding leaving
leaving_more n s m e = ap (λ o. option_map_or (λ m. m ∷ leaving n (message_left s)) o []) e

leaving_none : (n : ℕ) (s : NodeState) → next_leaving s ≡ None → leaving n s ≡ []
unfolding leaving
leaving_none zero s e = refl
leaving_none (suc n) s e = ap (λ o. option_map_or (λ m. m ∷ leaving n (message_left s)) o []) e

left_more : (n : ℕ) (s : NodeState) (m : Message) → next_leaving s ≡ Some m → left (suc n) s ≡ left n (message_left s)
unfolding left
left_more n s m e = ap (λ o. option_map_or (λ m. left n (message_left s)) o s) e

left_none : (n : ℕ) (s : NodeState) → next_leaving s ≡ None → left n s ≡ s
unfolding left
left_none zero s e = refl
left_none (suc n) s e = ap (λ o. option_map_or (λ m. left n (message_left s)) o s) e

pub map_more : {A B : Type 0} (f : A → B) (xs : List A) (x : A) → map f (xs ++ x ∷ []) ≡ map f xs ++ f x ∷ []
map_more f [] x = refl
map_more f (y ∷ ys) x = ap (λ l. f y ∷ l) (map_more f ys x)

pub length_more : {A : Type 0} (xs : List A) (x : A) → length (xs ++ x ∷ []) ≡ length xs + 1
length_more [] x = refl
length_more (y ∷ ys) x = let e = length_more ys x in grind arith

-- where there is one more, there is one
some_more : {A : Type 0} (xs : List A) (x : A) → true ≡ nat_lt 0 (length (xs ++ x ∷ []))
some_more xs x = let e = length_more xs x in grind arith

woken_more : (set : ℕ) (sents : List Sent) (sent : Sent) → woken_with set (sents ++ sent ∷ []) ≡ woken_by (woken_with set sents) sent
woken_more set [] sent = refl
woken_more set (x ∷ xs) sent = woken_more (woken_by set x) xs sent

noted_more : (sents : List Sent) (sent : Sent) (c : Chase) → noted (sents ++ sent ∷ []) c ≡ noted_one sent (noted sents c)
noted_more [] sent c = refl
noted_more (x ∷ xs) sent c = noted_more xs sent (noted_one x c)

append_none : {A : Type 0} (xs : List A) → xs ++ [] ≡ xs
append_none [] = refl
append_none (x ∷ xs) = ap (λ l. x ∷ l) (append_none xs)

left_after_more : (sents : List Sent) (sent : Sent) (s : NodeState) → left_after (sents ++ sent ∷ []) s ≡ message_left (left_after sents s)
left_after_more [] sent s = refl
left_after_more (x ∷ xs) sent s = left_after_more xs sent (message_left s)

puts_more : (sents : List Sent) (sent : Sent) (s : NodeState) → puts_each (sents ++ sent ∷ []) s ≡ puts_each sents s ++ (leaves (left_after sents s) (Some sent) ∷ put_of sent ∷ [])
puts_more [] sent s = refl
puts_more (x ∷ xs) sent s = ap (λ l. leaves s (Some x) ∷ put_of x ∷ l) (puts_more xs sent (message_left s))

is_short : (k n most : ℕ) → k + n ≡ most → 0 < n → (k == most) ≡ false
is_short k n most e some = grind (arith, nat_tests)

is_whole : (k most : ℕ) → k + 0 ≡ most → (k == most) ≡ true
is_whole k most e = grind (arith, nat_tests)

module _ {L : Type 0} (gives : L → Call → L → Type 0) where
  -- messages were put, and so many more may be
  pub record HasPut (n most : ℕ) (old now : NodeState) (from to : L) (set : ℕ) (any : Bool) (before c : Chase) : Type 0 where
    pub sents : List Sent
    pub count : length sents + n ≡ most
    pub oldest : map (λ s. s.message) sents ++ leaving n now ≡ leaving most old
    pub rest : left n now ≡ left most old
    pub here : now ≡ left_after sents old
    pub calls : Ran gives (puts_each sents old) from to
    pub woken : set ≡ woken_with 0 sents
    pub answer : any ≡ nat_lt 0 (length sents)
    pub chase : c ≡ noted sents before

  pub put_more : (n most : ℕ) (old now : NodeState) (from to : L) (set : ℕ) (any : Bool) (before c : Chase) (sent : Sent) (new : NodeState) (mid end : L)
      → HasPut (suc n) most old now from to set any before c
      → next_leaving now ≡ Some sent.message → new ≡ message_left now → gives to (leaves now (Some sent)) mid → gives mid (put_of sent) end
      → {woken : ℕ} {then : Chase} → woken ≡ woken_by set sent → then ≡ noted_one sent c
      → HasPut n most old new from end woken true before then
  put_more n most old now from to set any before c sent new mid end has next step went did {woken} {then} wakened chased = record {
    sents = has.sents ++ sent ∷ [];
    count = (let k = length_more has.sents sent in let e = has.count in grind arith);
    oldest = ap (λ l. l ++ leaving n new) (map_more (λ (s : Sent). s.message) has.sents sent) ∙ append_assoc (map (λ (s : Sent). s.message) has.sents) (sent.message ∷ []) (leaving n new)
        ∙ ap (λ s. map (λ (s : Sent). s.message) has.sents ++ (sent.message ∷ leaving n s)) step ∙ ap (λ l. map (λ (s : Sent). s.message) has.sents ++ l) (sym (leaving_more n now sent.message next)) ∙ has.oldest;
    rest = ap (λ s. left n s) step ∙ sym (left_more n now sent.message next) ∙ has.rest;
    here = step ∙ ap (λ (s : NodeState). message_left s) has.here ∙ sym (left_after_more has.sents sent old);
    calls = subst (λ cs. Ran gives cs from end) (sym (puts_more has.sents sent old))
        (run_join gives (puts_each has.sents old) (leaves (left_after has.sents old) (Some sent) ∷ put_of sent ∷ []) from to end has.calls
        (more (leaves (left_after has.sents old) (Some sent)) (put_of sent ∷ []) to mid end (subst (λ s. gives to (leaves s (Some sent)) mid) has.here went)
        (more (put_of sent) [] mid end end did (still end))));
    woken = wakened ∙ ap (λ s. woken_by s sent) has.woken ∙ sym (woken_more 0 has.sents sent);
    answer = some_more has.sents sent;
    chase = chased ∙ ap (λ k. noted_one sent k) has.chase ∙ sym (noted_more has.sents sent before);
  }

  pub put_none : (n most : ℕ) (old now t : NodeState) (from to : L) (set : ℕ) (any : Bool) (before c : Chase) (end : L) → HasPut n most old now from to set any before c
      → 0 < n → next_leaving now ≡ None → t ≡ now → gives to (leaves now None) end → Puts gives old t most any set before from c end
  put_none n most old now t from to set any before c end has some next same went = record {
    sents = has.sents;
    oldest = sym (append_none (map (λ (s : Sent). s.message) has.sents)) ∙ ap (λ l. map (λ (s : Sent). s.message) has.sents ++ l) (sym (leaving_none n now next)) ∙ has.oldest;
    calls = subst (λ b. Ran gives (puts_each has.sents old ++ cond b [] (leaves (left_after has.sents old) None ∷ [])) from end) (sym (is_short (length has.sents) n most has.count some))
        (run_more gives (puts_each has.sents old) (leaves (left_after has.sents old) None) from to end has.calls (subst (λ s. gives to (leaves s None) end) has.here went));
    after = same ∙ sym (left_none n now next) ∙ has.rest;
    chase = has.chase;
    answer = has.answer;
    wakes = has.woken;
  }

  pub put_full : (most : ℕ) (old now : NodeState) (from to : L) (set : ℕ) (any : Bool) (before c : Chase)
      → HasPut 0 most old now from to set any before c → Puts gives old now most any set before from c to
  unfolding leaving left
  put_full most old now from to set any before c has = record {
    sents = has.sents;
    oldest = sym (append_none (map (λ (s : Sent). s.message) has.sents)) ∙ has.oldest;
    calls = subst (λ b. Ran gives (puts_each has.sents old ++ cond b [] (leaves (left_after has.sents old) None ∷ [])) from to) (sym (is_whole (length has.sents) most has.count))
        (run_join gives (puts_each has.sents old) [] from to to has.calls (still to));
    after = has.rest;
    chase = has.chase;
    answer = has.answer;
    wakes = has.woken;
  }

  pub ring_one : (n p set : ℕ) (from to end : L) → has_member set p ≡ true → gives from (rings p) to → Ran gives (rings_from n (p + 1) set) to end → Ran gives (rings_from (suc n) p set) from end
  unfolding rings_from
  ring_one n p set from to end has did rest = subst (λ b. Ran gives (cond b (rings p ∷ rings_from n (p + 1) set) (rings_from n (p + 1) set)) from end) (sym has) (more (rings p) (rings_from n (p + 1) set) from to end did rest)

  pub ring_none : (n p set : ℕ) (from end : L) → has_member set p ≡ false → Ran gives (rings_from n (p + 1) set) from end → Ran gives (rings_from (suc n) p set) from end
  unfolding rings_from
  ring_none n p set from end has rest = subst (λ b. Ran gives (cond b (rings p ∷ rings_from n (p + 1) set) (rings_from n (p + 1) set)) from end) (sym has) rest
