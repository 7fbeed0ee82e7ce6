-- Messages and replies: what is read is printed so, and what is printed is read again.
use Rattle.std.proofs.Common.{◌≡◌, ℕ, ◌^◌, ◌<◌, ◌≤◌, false, cond, ltb, leb, ◌&&◌, List, [], ◌∷◌, ◌++◌, Option, None, Some, codes, decimal, refl, ap, subst, ◌∙◌, sym, arith}
use Rattle.std.specs.Prelude.{IfSome}
use Rattle.std.specs.Str.{bytes_eq}
use Rattle.std.proofs.lemmas.Option.{same_Some, cond_some}
use Rattle.std.proofs.lemmas.Bool.{and_parts, leb-true, ltb-true, le-leb, lt-ltb}
use Rattle.rr_types.specs.declared.command.RequestNo.{RequestNo}
use Rattle.rr_types.specs.declared.command.Reply.{Reply}
use Rattle.rr_types.specs.declared.command.ReplyKind.{ReplyKind}
use Rattle.rr_types.specs.Commands.{reply_kinds, reply_word, reply_kind, reply_owner, reply_with}
use Rattle.rr_types.proofs.PartLemmas.{reply_again as reply_of_parts, parts_of_made, reply_word_again, reply_word_is_plain}
use Rattle.rr_types.specs.declared.message.Body.{Body}
use Rattle.rr_types.specs.declared.message.Body.TheVariants as bodies
use Rattle.rr_types.specs.Rounds.{Estimated}
use Rattle.rr_text.specs.Words.{spaced, op_words, set_text, IsOp, IsCommand}
use Rattle.rr_text.specs.ReportTexts.{request_text, command_words, body_words, message_words, owner_words, reply_words}
use Rattle.rr_text.specs.Reading.{◌>>=◌, cut_at, small_at, number_at, op_at, message_kind_at}
use Rattle.rr_text.proofs.CutLemmas.{AtLeast, AtLeast-append, bind_some, cut_again, cut_takes, cut_nowhere, plain_by_test}
use Rattle.rr_text.proofs.NumberLemmas.{number_again, number_takes, small_again, small_takes, decimal_plain, decimal_high}
use Rattle.rr_text.proofs.WordReading.{same_text, other_text}
use Rattle.rr_text.proofs.OpReading.{find_takes, op_again, op_takes}
use Rattle.rr_text.proofs.EventReading.{joined, low, spaced_op, op_plain}
use Rattle.rr_types.specs.declared.message.MessageKind.{MessageKind}
use Rattle.rr_types.specs.declared.message.MessageKind.TheVariants.{Estimate, Proposal, Ack, Decision, Request, Nack, Beat, Suspects, Ask}
use Rattle.rr_types.specs.Messages.{message_word}
use Rattle.rr_text.specs.Taped.{IsInstance, IsRound, IsEstimate, IsBody, IsMessage, IsRequest, IsReply}
use Rattle.rr_text.specs.TapeReading.{instance_at, round_at, request_at, both_at, command_at, estimate_from, estimate_at, estimated_at, proposed_at, round_of_at, decided_at, body_fields_at, body_from, body_at, message_at, reply_kind_at, reply_from, reply_at}
use Rattle.rr_text.proofs.Readers.{IsReader, as_text, made, taken_as, beside, small_word, set_word, node_word}

-- ---- words

pub instance_word : IsReader 33 instance_at decimal IsInstance
instance_word = record {
  takes = λ w i e.
      let s = bind_some (small_at w) (λ j. cond (ltb j 1048576) (Some j) None) i e in
      let g = cond_some (ltb s.0 1048576) s.0 i s.2 in
      let t = small_takes w s.0 s.1 in
      subst (λ j. (decimal j ≡ w) × IsInstance j) g.1 (t.0, ltb-true s.0 1048576 g.0);
  again = λ i h. rw (small_again i (omega (arith, h)), lt-ltb i 1048576 h) refl;
  plain = λ i h. decimal_plain i (omega (arith, h));
}

pub round_word : IsReader 33 round_at decimal IsRound
round_word = record {
  takes = λ w r e.
      let s = bind_some (small_at w) (λ j. cond (leb 1 j && leb j 2147483647) (Some j) None) r e in
      let g = cond_some (leb 1 s.0 && leb s.0 2147483647) s.0 r s.2 in
      let p = and_parts (leb 1 s.0) (leb s.0 2147483647) g.0 in
      let t = small_takes w s.0 s.1 in
      subst (λ j. (decimal j ≡ w) × IsRound j) g.1 (t.0, (leb-true 1 s.0 p.0, leb-true s.0 2147483647 p.1));
  again = λ r h. rw (small_again r (omega (arith, h.1)), le-leb 1 r h.0, le-leb r 2147483647 h.1) refl;
  plain = λ r h. decimal_plain r (omega (arith, h.1));
}

request_takes : (w : List ℕ) (q : RequestNo) → request_at w ≡ Some q → (request_text q ≡ w) × IsRequest q
request_takes w q e =
    let c = bind_some (cut_at 46 w) (λ q. small_at q.0 >>= λ client. number_at q.1 >>= λ seq. Some (record { client = client; seq = seq })) q e in
    let client = bind_some (small_at c.0.0) (λ client. number_at c.0.1 >>= λ seq. Some (record { client = client; seq = seq })) q c.2 in
    let seq = bind_some (number_at c.0.1) (λ seq. Some (record { client = client.0; seq = seq })) q client.2 in
    let first = small_takes c.0.0 client.0 client.1 in
    let second = number_takes c.0.1 seq.0 seq.1 in
    let cut : w ≡ c.0.0 ++ 46 ∷ c.0.1 = cut_takes 46 w c.0.0 c.0.1 c.1 in
    let request : RequestNo = record { client = client.0; seq = seq.0 } in
    let is : request_text request ≡ w = ap (λ (v : List ℕ). v ++ 46 ∷ decimal seq.0) first.0 ∙ ap (λ (v : List ℕ). c.0.0 ++ 46 ∷ v) second.0 ∙ sym cut in
    let fits : IsRequest request = record { client = first.1; seq = second.1 } in
    subst (λ (p : RequestNo). (request_text p ≡ w) × IsRequest p) (same_Some request q seq.2) (is, fits)

pub request_word : IsReader 33 request_at request_text IsRequest
request_word = record {
  takes = request_takes;
  again = λ q h. rw (cut_again 46 48 (decimal q.client) (decimal q.seq) (omega arith) (decimal_high q.client (omega (arith, h.client))), small_again q.client h.client, number_again q.seq h.seq) refl;
  plain = λ q h. AtLeast-append 33 (decimal q.client) (46 ∷ decimal q.seq) (decimal_plain q.client (omega (arith, h.client))) (omega arith, decimal_plain q.seq h.seq);
}

op_text : IsReader 32 op_at (λ o. spaced (op_words o)) IsOp
op_text = record { takes = op_takes; again = op_again; plain = op_plain }

-- ---- parts of messages

command_text : IsReader 32 command_at (λ c. spaced (command_words c)) IsCommand
command_text =
    made (beside request_word op_text) (λ c. record { request = c.0; op = c.1 }) (λ c. (c.request, c.op)) (λ c. spaced (command_words c)) IsCommand
    (λ c. refl)
    (λ c. spaced_op (request_text c.0) c.1)
    (λ c h. record { client = h.0.client; seq = h.0.seq; op = h.1 })
    (λ c h. (record { client = h.client; seq = h.seq }, h.op))

-- the words of an estimate
abbrev estimate_words : Estimated → List ℕ
estimate_words e = decimal e.round ++ 32 ∷ (decimal e.stamp ++ 32 ∷ spaced (command_words e.command))

estimate_parts : IsReader 32 (both_at round_at (both_at small_at command_at)) (λ x. decimal x.0 ++ 32 ∷ (decimal x.1.0 ++ 32 ∷ spaced (command_words x.1.1))) (λ x. IsRound x.0 × ((x.1.0 < 2 ^ 32) × IsCommand x.1.1))
estimate_parts = beside round_word (beside small_word command_text)

estimate_text : IsReader 32 estimate_at estimate_words IsEstimate
estimate_text = record {
  takes = λ t e given.
      let x = bind_some (both_at round_at (both_at small_at command_at) t) estimate_from e given in
      let u = estimate_parts.takes t x.0 x.1 in
      let estimate : Estimated = record { round = x.0.0; stamp = x.0.1.0; command = x.0.1.1 } in
      let g = cond_some (ltb x.0.1.0 x.0.0) estimate e x.2 in
      let fits : IsEstimate estimate = record { round = u.1.0; stamp = ltb-true x.0.1.0 x.0.0 g.0; command = u.1.1.1 } in
      subst (λ (d : Estimated). (estimate_words d ≡ t) × IsEstimate d) g.1 (u.0, fits);
  again = λ e h. rw (estimate_parts.again (e.round, (e.stamp, e.command)) (h.round, (omega (arith, h.stamp, h.round.1), h.command)), lt-ltb e.stamp e.round h.stamp) refl;
  plain = λ e h. estimate_parts.plain (e.round, (e.stamp, e.command)) (h.round, (omega (arith, h.stamp, h.round.1), h.command));
}

estimated_text : IsReader 32 estimated_at (λ x. decimal x.0 ++ 32 ∷ estimate_words x.1) (λ x. IsInstance x.0 × IsEstimate x.1)
estimated_text = beside instance_word estimate_text

proposed_text : IsReader 32 proposed_at (λ x. decimal x.0 ++ 32 ∷ (decimal x.1 ++ 32 ∷ spaced (command_words x.2))) (λ x. IsInstance x.0 × IsRound x.1 × IsCommand x.2)
proposed_text =
    made (beside instance_word (beside round_word command_text)) (λ p. (p.0, p.1.0, p.1.1)) (λ p. (p.0, (p.1, p.2))) (λ x. decimal x.0 ++ 32 ∷ (decimal x.1 ++ 32 ∷ spaced (command_words x.2))) (λ x. IsInstance x.0 × IsRound x.1 × IsCommand x.2)
    (λ p. refl) (λ p. refl) (λ p h. (h.0, h.1.0, h.1.1)) (λ p h. (h.0, (h.1, h.2)))

round_of_text : IsReader 32 round_of_at (λ x. decimal x.0 ++ 32 ∷ decimal x.1) (λ x. IsInstance x.0 × IsRound x.1)
round_of_text = beside instance_word (as_text round_word)

decided_text : IsReader 32 decided_at (λ x. decimal x.0 ++ 32 ∷ spaced (command_words x.1)) (λ x. IsInstance x.0 × IsCommand x.1)
decided_text = beside instance_word command_text

-- ---- what a message says

kind_again : (k : MessageKind) → message_kind_at (message_word k) ≡ Some k
kind_again Estimate = refl
kind_again Proposal = refl
kind_again Ack = refl
kind_again Decision = refl
kind_again Request = refl
kind_again Nack = refl
kind_again Beat = refl
kind_again Suspects = refl
kind_again Ask = refl

kind_plain : (k : MessageKind) → AtLeast 33 (message_word k)
kind_plain Estimate = plain_by_test (codes "estimate") refl
kind_plain Proposal = plain_by_test (codes "proposal") refl
kind_plain Ack = plain_by_test (codes "ack") refl
kind_plain Decision = plain_by_test (codes "decision") refl
kind_plain Request = plain_by_test (codes "request") refl
kind_plain Nack = plain_by_test (codes "nack") refl
kind_plain Beat = plain_by_test (codes "beat") refl
kind_plain Suspects = plain_by_test (codes "suspects") refl
kind_plain Ask = plain_by_test (codes "ask") refl

abbrev body_text : Body → List ℕ
body_text b = spaced (body_words b)

fields_takes : (n : ℕ) (k : MessageKind) (t : List ℕ) (b : Body) → n ≤ 7 → body_fields_at n k t ≡ Some b → (body_text b ≡ message_word k ++ 32 ∷ t) × IsBody n b
fields_takes n Estimate t b few e = taken_as estimated_text (λ x. bodies.Estimate x.0 x.1) body_text (IsBody n) (codes "estimate") (λ x. refl) (λ x h. h) t b e
fields_takes n Proposal t b few e = taken_as proposed_text (λ x. bodies.Proposal x.0 x.1 x.2) body_text (IsBody n) (codes "proposal") (λ x. refl) (λ x h. h) t b e
fields_takes n Ack t b few e = taken_as round_of_text (λ x. bodies.Ack x.0 x.1) body_text (IsBody n) (codes "ack") (λ x. refl) (λ x h. h) t b e
fields_takes n Decision t b few e = taken_as decided_text (λ x. bodies.Decision x.0 x.1) body_text (IsBody n) (codes "decision") (λ x. refl) (λ x h. h) t b e
fields_takes n Request t b few e = taken_as command_text (λ c. bodies.Request c) body_text (IsBody n) (codes "request") (λ x. refl) (λ x h. h) t b e
fields_takes n Nack t b few e = taken_as round_of_text (λ x. bodies.Nack x.0 x.1) body_text (IsBody n) (codes "nack") (λ x. refl) (λ x h. h) t b e
fields_takes n Beat t b few e = absurd cc
fields_takes n Suspects t b few e = taken_as (set_word n few) (λ s. bodies.Suspects s) body_text (IsBody n) (codes "suspects") (λ x. refl) (λ x h. h) t b e
fields_takes n Ask t b few e = taken_as instance_word (λ i. bodies.Ask i) body_text (IsBody n) (codes "ask") (λ x. refl) (λ x h. h) t b e

body_from_takes : (n : ℕ) (t : List ℕ) (o : Option (List ℕ × List ℕ)) (b : Body) → n ≤ 7 → cut_at 32 t ≡ o → body_from n t o ≡ Some b → (body_text b ≡ t) × IsBody n b
body_from_takes n t None b few cut e =
    let g = cond_some (bytes_eq t (codes "beat")) bodies.Beat b e in
    subst (λ (d : Body). (body_text d ≡ t) × IsBody n d) g.1 (sym (same_text t (codes "beat") g.0), tt)
body_from_takes n t (Some w) b few cut e =
    let k = bind_some (message_kind_at w.0) (λ k. body_fields_at n k w.1) b e in
    let f = fields_takes n k.0 w.1 b few k.2 in
    let word : w.0 ≡ message_word k.0 = find_takes message_word w.0 (Estimate ∷ Proposal ∷ Ack ∷ Decision ∷ Request ∷ Nack ∷ Beat ∷ Suspects ∷ Ask ∷ []) k.0 k.1 in
    (f.0 ∙ ap (λ (v : List ℕ). v ++ 32 ∷ w.1) (sym word) ∙ sym (cut_takes 32 t w.0 w.1 cut), f.1)

body_of : (n : ℕ) (k : MessageKind) (t : List ℕ) (b : Body) → body_fields_at n k t ≡ Some b → body_at n (message_word k ++ 32 ∷ t) ≡ Some b
body_of n k t b given = rw (cut_again 32 33 (message_word k) t (omega arith) (kind_plain k), kind_again k) given

-- where a text begins with the word of a kind and a space, the fields stand behind them
pub kind_known : (n : ℕ) (k : MessageKind) (t : List ℕ) → body_at n (message_word k ++ 32 ∷ t) ≡ body_fields_at n k t
kind_known n k t = rw (cut_again 32 33 (message_word k) t (omega arith) (kind_plain k), kind_again k) refl

-- a text with a space is no word, so one without a kind says nothing
pub kind_unknown : (n : ℕ) (text w rest : List ℕ) → cut_at 32 text ≡ Some (w, rest) → message_kind_at w ≡ None → body_at n text ≡ body_from 0 text None
kind_unknown n text w rest cut unknown =
    let other : bytes_eq text (codes "beat") ≡ false = other_text text (codes "beat") (λ is. let none : None ≡ Some (w, rest) = ap (cut_at 32) (sym is) ∙ cut in cc) in
    rw (cut, unknown, other) refl

body_again : (n : ℕ) (b : Body) → n ≤ 7 → IsBody n b → body_at n (body_text b) ≡ Some b
body_again n (bodies.Estimate i e) few h = body_of n Estimate (decimal i ++ 32 ∷ estimate_words e) (bodies.Estimate i e) (rw (estimated_text.again (i, e) h) refl)
body_again n (bodies.Proposal i r c) few h = body_of n Proposal (decimal i ++ 32 ∷ (decimal r ++ 32 ∷ spaced (command_words c))) (bodies.Proposal i r c) (rw (proposed_text.again (i, r, c) h) refl)
body_again n (bodies.Ack i r) few h = body_of n Ack (decimal i ++ 32 ∷ decimal r) (bodies.Ack i r) (rw (round_of_text.again (i, r) h) refl)
body_again n (bodies.Decision i c) few h = body_of n Decision (decimal i ++ 32 ∷ spaced (command_words c)) (bodies.Decision i c) (rw (decided_text.again (i, c) h) refl)
body_again n (bodies.Request c) few h = body_of n Request (spaced (command_words c)) (bodies.Request c) (rw (command_text.again c h) refl)
body_again n (bodies.Nack i r) few h = body_of n Nack (decimal i ++ 32 ∷ decimal r) (bodies.Nack i r) (rw (round_of_text.again (i, r) h) refl)
body_again n bodies.Beat few h = refl
body_again n (bodies.Suspects s) few h = body_of n Suspects (set_text s) (bodies.Suspects s) (rw ((set_word n few).again s h) refl)
body_again n (bodies.Ask i) few h = body_of n Ask (decimal i) (bodies.Ask i) (rw (instance_word.again i h) refl)

said_plain : (k : MessageKind) (t : List ℕ) → AtLeast 32 t → AtLeast 32 (message_word k ++ 32 ∷ t)
said_plain k t h = joined (message_word k) t (kind_plain k) h

body_plain : (n : ℕ) (b : Body) → n ≤ 7 → IsBody n b → AtLeast 32 (body_text b)
body_plain n (bodies.Estimate i e) few h = said_plain Estimate (decimal i ++ 32 ∷ estimate_words e) (estimated_text.plain (i, e) h)
body_plain n (bodies.Proposal i r c) few h = said_plain Proposal (decimal i ++ 32 ∷ (decimal r ++ 32 ∷ spaced (command_words c))) (proposed_text.plain (i, r, c) h)
body_plain n (bodies.Ack i r) few h = said_plain Ack (decimal i ++ 32 ∷ decimal r) (round_of_text.plain (i, r) h)
body_plain n (bodies.Decision i c) few h = said_plain Decision (decimal i ++ 32 ∷ spaced (command_words c)) (decided_text.plain (i, c) h)
body_plain n (bodies.Request c) few h = said_plain Request (spaced (command_words c)) (command_text.plain c h)
body_plain n (bodies.Nack i r) few h = said_plain Nack (decimal i ++ 32 ∷ decimal r) (round_of_text.plain (i, r) h)
body_plain n bodies.Beat few h = low (codes "beat") (plain_by_test (codes "beat") refl)
body_plain n (bodies.Suspects s) few h = said_plain Suspects (set_text s) ((as_text (set_word n few)).plain s h)
body_plain n (bodies.Ask i) few h = said_plain Ask (decimal i) ((as_text instance_word).plain i h)

body_reader : (n : ℕ) → n ≤ 7 → IsReader 32 (body_at n) body_text (IsBody n)
body_reader n few = record { takes = λ t b e. body_from_takes n t (cut_at 32 t) b few refl e; again = λ b h. body_again n b few h; plain = λ b h. body_plain n b few h }

spaced_body : (w : List ℕ) (b : Body) → spaced (w ∷ body_words b) ≡ w ++ 32 ∷ body_text b
spaced_body w (bodies.Estimate i e) = refl
spaced_body w (bodies.Proposal i r c) = refl
spaced_body w (bodies.Ack i r) = refl
spaced_body w (bodies.Decision i c) = refl
spaced_body w (bodies.Request c) = refl
spaced_body w (bodies.Nack i r) = refl
spaced_body w bodies.Beat = refl
spaced_body w (bodies.Suspects s) = refl
spaced_body w (bodies.Ask i) = refl

-- ---- messages

pub message_text : (n : ℕ) → n ≤ 7 → IsReader 32 (message_at n) (λ m. spaced (message_words m)) (IsMessage n)
message_text n few =
    made (beside (node_word n few) (beside (node_word n few) (body_reader n few))) (λ m. record { from = m.0; to = m.1.0; body = m.1.1 }) (λ m. (m.from, (m.to, m.body))) (λ m. spaced (message_words m)) (IsMessage n)
    (λ m. refl)
    (λ m. ap (λ (w : List ℕ). decimal m.0 ++ 32 ∷ w) (spaced_body (decimal m.1.0) m.1.1))
    (λ m h. record { from = h.0; to = h.1.0; body = h.1.1 })
    (λ m h. (h.from, (h.to, h.body)))

-- ---- replies

abbrev reply_text : Reply → List ℕ
reply_text r = spaced (reply_words r)

plain_word : (k : ReplyKind) → AtLeast 33 (reply_word k)
plain_word k = plain_by_test (reply_word k) (reply_word_is_plain k)

reply_from_takes : (t : List ℕ) (o : Option (List ℕ × List ℕ)) (r : Reply) → cut_at 32 t ≡ o → reply_from t o ≡ Some r → (reply_text r ≡ t) × IsReply r
reply_from_takes t None r cut e =
    let k = bind_some (reply_kind_at t) (λ k. reply_with k None) r e in
    let word : t ≡ reply_word k.0 = find_takes reply_word t reply_kinds k.0 k.1 in
    let parts = parts_of_made k.0 None r k.2 in
    let words : reply_words r ≡ reply_word k.0 ∷ [] = rw (parts.0, parts.1) refl in
    (ap spaced words ∙ sym word, rw parts.1 tt)
reply_from_takes t (Some w) r cut e =
    let k = bind_some (reply_kind_at w.0) (λ k. small_at w.1 >>= λ o. reply_with k (Some o)) r e in
    let o = bind_some (small_at w.1) (λ o. reply_with k.0 (Some o)) r k.2 in
    let word : w.0 ≡ reply_word k.0 = find_takes reply_word w.0 reply_kinds k.0 k.1 in
    let u = small_takes w.1 o.0 o.1 in
    let parts = parts_of_made k.0 (Some o.0) r o.2 in
    let is : reply_word k.0 ++ 32 ∷ decimal o.0 ≡ t = ap (λ (v : List ℕ). v ++ 32 ∷ decimal o.0) (sym word) ∙ ap (λ (v : List ℕ). w.0 ++ 32 ∷ v) u.0 ∙ sym (cut_takes 32 t w.0 w.1 cut) in
    let words : reply_words r ≡ reply_word k.0 ∷ decimal o.0 ∷ [] = rw (parts.0, parts.1) refl in
    (ap spaced words ∙ is, rw parts.1 u.1)

-- the words of a kind and of an owner are read again
parts_again : (k : ReplyKind) (o : Option ℕ) → IfSome o (λ owner. owner < 2 ^ 32) → reply_at (spaced (reply_word k ∷ owner_words o)) ≡ reply_with k o
parts_again k None h = rw (cut_nowhere 32 33 (reply_word k) (omega arith) (plain_word k), reply_word_again k) refl
parts_again k (Some o) h = rw (cut_again 32 33 (reply_word k) (decimal o) (omega arith) (plain_word k), reply_word_again k, small_again o h) refl

reply_again : (r : Reply) → IsReply r → reply_at (reply_text r) ≡ Some r
reply_again r h = parts_again (reply_kind r) (reply_owner r) h ∙ reply_of_parts r

parts_plain : (k : ReplyKind) (o : Option ℕ) → IfSome o (λ owner. owner < 2 ^ 32) → AtLeast 32 (spaced (reply_word k ∷ owner_words o))
parts_plain k None h = low (reply_word k) (plain_word k)
parts_plain k (Some o) h = joined (reply_word k) (decimal o) (plain_word k) ((as_text small_word).plain o h)

pub reply_reader : IsReader 32 reply_at reply_text IsReply
reply_reader = record {
  takes = λ t r e. reply_from_takes t (cut_at 32 t) r refl e;
  again = reply_again;
  plain = λ r h. parts_plain (reply_kind r) (reply_owner r) h;
}

pub spaced_reply : (w : List ℕ) (r : Reply) → spaced (w ∷ reply_words r) ≡ w ++ 32 ∷ spaced (reply_words r)
spaced_reply w r = refl
