-- What a report tells in the world, and what a sound run makes of it.
use Rattle.std.proofs.Common.{◌≡◌, ◌⊎◌, inl, inr, ℕ, zero, suc, ◌≤◌, List, [], ◌∷◌, ◌++◌, length, take, Contains, refl, sym, ◌∙◌, ap, subst, arith}
use Rattle.std.specs.Prelude.{IsTrue, Some}
use Rattle.std.proofs.lemmas.List.{append-nil}
use Rattle.std.proofs.lemmas.List.Concat.{flat_map-append}
use Rattle.std.proofs.lemmas.List.Elements.{Contains-append_left, Contains-append_right, Contains-append_cases}
use Rattle.rr_types.specs.declared.command.Command.{Command}
use Rattle.rr_types.specs.declared.command.RequestNo.{RequestNo}
use Rattle.rr_types.specs.declared.command.Reply.{Reply}
use Rattle.rr_types.specs.declared.message.Body.TheVariants.{Decision}
use Rattle.rr_types.specs.declared.message.Message.{Message}
use Rattle.rr_types.specs.Registry.{Bindings, registry_of, reply_of, has_request}
use Rattle.rr_model.specs.Laws.{after_steps}
use Rattle.rr_model.specs.Lawful.{Says}
use Rattle.rr_model.specs.Sound.{IsDecidedList, IsSound}
use Rattle.rr_model.specs.World as world
use Rattle.rr_model.specs.World.{World, Step, Stage, Settle, GoDown, Acknowledge, Told, Sent, Acknowledged, Reported, after_step, empty_world, end_of}
use Rattle.rr_model.proofs.Places.{place_of, Contains-split}
use Rattle.rr_types.specs.declared.binding.Binding.{Binding}
use Rattle.rr_text.specs.declared.report.ReportLine.{ReportLine}
use Rattle.rr_text.specs.declared.report.ReportLine.TheVariants as line
use Rattle.rr_sim.specs.Clusters.{shown}
use Rattle.rr_sim.specs.Headline.{bound, told_by_line, told_in}

-- a report shows a registry whole
pub bound_shown : (entries : Bindings) → bound (shown entries) ≡ entries
bound_shown [] = refl
bound_shown (b ∷ entries) = ap (λ (bs : Bindings). b ∷ bs) (bound_shown entries)

pub shown_bound : (names : List Binding) → shown (bound names) ≡ names
shown_bound [] = refl
shown_bound (b ∷ names) = ap (λ (bs : List Binding). b ∷ bs) (shown_bound names)

-- the lines of two parts of a report tell what these tell
pub told_parts : (a b : List ReportLine) → told_in (a ++ b) ≡ told_in a ++ told_in b
told_parts a b = flat_map-append told_by_line a b

-- what a line tells is told in the report
pub line_told : (lines : List ReportLine) (l : ReportLine) (t : Told) → told_by_line l ≡ t ∷ [] → Contains lines l → Contains (told_in lines) t
line_told lines l t is c =
    let at = place_of lines l c in
    let whole : told_in lines ≡ told_in at.before ++ (told_by_line l ++ told_in at.after) = ap told_in at.is ∙ told_parts at.before (l ∷ at.after) in
    let split : told_in lines ≡ told_in at.before ++ t ∷ told_in at.after = whole ∙ ap (λ (ts : List Told). told_in at.before ++ (ts ++ told_in at.after)) is in
    subst (λ (ts : List Told). Contains ts t) (sym split) (Contains-split (told_in at.before) (told_in at.after) t)

-- what was told as sent is on the wire
abbrev pub IsSentOnWire : World → Type 0
IsSentOnWire w = (m : Message) → Contains w.trace (Sent m) → Contains w.wire m

pub only : {A : Type 0} (x y : A) → Contains (y ∷ []) x → y ≡ x
only x y (zero, l, e) = e
only x y (suc k, l, e) = absurd (omega (arith, l))

sent_more : (w : World) (m x : Message) → IsSentOnWire w → Contains (w.trace ++ Sent m ∷ []) (Sent x) → Contains (w.wire ++ m ∷ []) x
sent_more w m x h c = by (Contains-append_cases w.trace (Sent m ∷ []) (Sent x) c)
  where
    by : Contains w.trace (Sent x) ⊎ Contains (Sent m ∷ []) (Sent x) → Contains (w.wire ++ m ∷ []) x
    by (inl old) = Contains-append_left w.wire (m ∷ []) x (h x old)
    by (inr new) = Contains-append_right w.wire (m ∷ []) x (let e : Sent m ≡ Sent x = only (Sent x) (Sent m) new in let f : m ≡ x = cc in (0, omega arith, f))

told_else : (w : World) (t : Told) (x : Message) → IsSentOnWire w → ((t ≡ Sent x) → ⊥) → Contains (w.trace ++ t ∷ []) (Sent x) → Contains w.wire x
told_else w t x h else c = by (Contains-append_cases w.trace (t ∷ []) (Sent x) c)
  where
    by : Contains w.trace (Sent x) ⊎ Contains (t ∷ []) (Sent x) → Contains w.wire x
    by (inl old) = h x old
    by (inr new) = absurd (else (only (Sent x) t new))

sent_step : (w : World) (s : Step) → IsSentOnWire w → IsSentOnWire (after_step w s)
sent_step w (world.Submit p c) h = h
sent_step w (world.Hear p m) h = h
sent_step w (Stage p f) h = h
sent_step w (Settle p count) h = h
sent_step w (world.Send p m) h = λ x c. sent_more w m x h c
sent_step w (Acknowledge p q reply) h = λ x c. told_else w (Acknowledged p q reply) x h (λ e. absurd (cc)) c
sent_step w (GoDown p) h = h
sent_step w (world.Restart p count) h = λ x c. told_else w _ x h (λ e. absurd (cc)) c

pub sent_steps : (w : World) (steps : List Step) → IsSentOnWire w → IsSentOnWire (after_steps w steps)
sent_steps w [] h = h
sent_steps w (s ∷ steps) h = sent_steps (after_step w s) steps (sent_step w s h)

pub sent_in_run : (run : List Step) → IsSentOnWire (end_of run)
sent_in_run run = sent_steps empty_world run (λ m c. absurd (omega (arith, c.1)))

module _ (n : ℕ) (run : List Step) (lines : List ReportLine) (list : List Command) (sound : IsSound n run) (told : (end_of run).trace ≡ told_in lines) (decided : IsDecidedList n (end_of run).wire list) where
  in_trace : (l : ReportLine) (t : Told) → told_by_line l ≡ t ∷ [] → Contains lines l → Contains (end_of run).trace t
  in_trace l t is c = subst (λ (ts : List Told). Contains ts t) (sym told) (line_told lines l t is c)

  pub restarts_of_list : (p facts count : ℕ) (names : List Binding) → Contains lines (line.Restart p facts count names) → (count ≤ length list) × (names ≡ shown (registry_of (take count list)))
  restarts_of_list p facts count names c =
      let r = sound.restarts_report_beginnings_of_it list decided p count (bound names) (in_trace (line.Restart p facts count names) (Reported p count (bound names)) refl c) in
      (r.0, sym (shown_bound names) ∙ ap shown r.1)

  pub acknowledged_in_list : (before after : List ReportLine) (p facts count : ℕ) (names : List Binding) → lines ≡ before ++ line.Restart p facts count names ∷ after
      → (q : RequestNo) (reply : Reply) → Contains before (line.Ack p q reply) → IsTrue (has_request (take count list) q)
  acknowledged_in_list before after p facts count names is q reply c =
      sound.restarts_hold_what_was_acknowledged list decided (told_in before) (told_in after) p count (bound names)
      (told ∙ ap told_in is ∙ told_parts before (line.Restart p facts count names ∷ after)) q reply
      (line_told before (line.Ack p q reply) (Acknowledged p q reply) refl c)

  pub replies_of_list : (p : ℕ) (q : RequestNo) (reply : Reply) → Contains lines (line.Ack p q reply) → reply_of list q ≡ Some reply
  replies_of_list p q reply c = sound.acknowledged_replies_are_its_own list decided p q reply (in_trace (line.Ack p q reply) (Acknowledged p q reply) refl c)

  says_of : (k i : ℕ) (m : Message) (v : Command) → Contains lines (line.Send k m) → m.body ≡ Decision i v → Says (end_of run).wire m.from (Decision i v)
  says_of k i m v c is =
      (m.to, subst (λ (x : Message). Contains (end_of run).wire x) (ap (λ b. record { from = m.from; to = m.to; body = b }) is) (sent_in_run run m (in_trace (line.Send k m) (Sent m) refl c)))

  nothing_behind : run ≡ run ++ []
  nothing_behind = sym (append-nil run)

  pub one_decision : (j k i : ℕ) (m o : Message) (v w : Command) → Contains lines (line.Send j m) → Contains lines (line.Send k o) → m.body ≡ Decision i v → o.body ≡ Decision i w → v ≡ w
  one_decision j k i m o v w c d e f =
      sound.one_command_is_chosen i v w
      (sound.what_decisions_say_is_chosen run [] nothing_behind m.from i v (says_of j i m v c e))
      (sound.what_decisions_say_is_chosen run [] nothing_behind o.from i w (says_of k i o w d f))
