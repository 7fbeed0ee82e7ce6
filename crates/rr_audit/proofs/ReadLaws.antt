-- An audit that goes on line by line finds what there is to find of the events of the lines.
use Rattle.std.proofs.Common.{◌≡◌, ◌⊎◌, inl, inr, true, false, ℕ, suc, ◌+◌, ◌<◌, ◌≤◌, List, [], ◌∷◌, ◌++◌, length, Option, None, Some, Ok, refl, ap, sym, ◌∙◌, subst, arith}
use Rattle.std.specs.Option.{is_some}
use Rattle.std.specs.List.{flat_map}
use Rattle.std.proofs.lemmas.List.{append_assoc, length-append}
use Rattle.rr_types.specs.declared.refusal.Refusal.{Refusal}
use Rattle.rr_types.specs.declared.refusal.Refusal.TheVariants as because
use Rattle.rr_text.specs.Lines.{nodes_line, HasNoLine, IsStop}
use Rattle.rr_text.proofs.LineReading.{SoFar, so_far_none, so_far_on, so_far_all, so_far_stop}
use Rattle.rr_text.specs.declared.tape_event.TapeEvent.{TapeEvent}
use Rattle.rr_text.specs.Taped.{Taped, IsTapeEvent}
use Rattle.rr_text.specs.TapeTexts.{tape_line}
use Rattle.rr_audit.specs.declared.auditing.Verdict.{Verdict}
use Rattle.rr_audit.specs.declared.given.Given.{Given}
use Rattle.rr_audit.specs.declared.progress.Progress.{Progress}
use Rattle.rr_audit.specs.Audits.{Replay, new_replay, IsNext, IsVerdict, StopsAt}
use Rattle.rr_audit.specs.declared.auditing.Verdict.TheVariants.{Yes}
use Rattle.rr_audit.specs.Following.{Steps, IsFoundSoFar, IsUnderWay}
use Rattle.rr_audit.specs.AuditTexts.{IsVerdictOn}
use Rattle.rr_audit.proofs.Going.{LeadsTo, went_on, finished, stopped}

-- ---- one event more

-- an event behind the first that isn't next changes nothing
pub stops_still : (n : ℕ) (events : List TapeEvent) (e : TapeEvent) (number : ℕ) → StopsAt n events number → StopsAt n (events ++ e ∷ []) number
stops_still n events e number h = record {
  before = h.before;
  event = h.event;
  after = h.after ++ e ∷ [];
  split = ap (λ (es : List TapeEvent). es ++ e ∷ []) h.split ∙ append_assoc h.before (h.event ∷ h.after) (e ∷ []);
  counted = h.counted;
  run = h.run;
  one_list = h.one_list;
  strange = h.strange;
}

-- the event was next
pub goes_on : (n : ℕ) (events : List TapeEvent) (e : TapeEvent) (old new : Replay) → LeadsTo n events old → Steps e old new (Ok None) → LeadsTo n (events ++ e ∷ []) new
goes_on n events e old new h step = went_on n events (events ++ e ∷ []) e old new refl h step

-- it wasn't
pub comes_to_a_stop : (n number : ℕ) (events : List TapeEvent) (e : TapeEvent) (old new : Replay) (given : Given) → number ≡ length events + 1 → LeadsTo n events old → Steps e old new (Ok (Some given)) → StopsAt n (events ++ e ∷ []) number
comes_to_a_stop n number events e old new given counted h strange =
    subst (λ (k : ℕ). StopsAt n (events ++ e ∷ []) k) (sym counted) (stopped n (length events) (events ++ e ∷ []) events [] e old refl refl h strange)

-- what is found stays found
pub found_still : (n : ℕ) (events : List TapeEvent) (e : TapeEvent) (here : Replay) (found : Option (ℕ × ℕ × Given)) → is_some found ≡ true → IsFoundSoFar n events here found → IsFoundSoFar n (events ++ e ∷ []) here found
found_still n events e here None some h = absurd (cc)
found_still n events e here (Some (number, node, given)) some h = stops_still n events e number h

-- it is found now
pub found_now : (n number : ℕ) (events : List TapeEvent) (e : TapeEvent) (old new : Replay) (found : Option (ℕ × ℕ × Given)) (given : Given) → is_some found ≡ false → number ≡ length events + 1 → IsFoundSoFar n events old found → Steps e old new (Ok (Some given)) → StopsAt n (events ++ e ∷ []) number
found_now n number events e old new None given none counted h strange = comes_to_a_stop n number events e old new given counted h strange
found_now n number events e old new (Some x) given none counted h strange = absurd (cc)

-- nothing is found yet
pub found_on : (n : ℕ) (events : List TapeEvent) (e : TapeEvent) (old new : Replay) (found : Option (ℕ × ℕ × Given)) → is_some found ≡ false → IsFoundSoFar n events old found → Steps e old new (Ok None) → IsFoundSoFar n (events ++ e ∷ []) new found
found_on n events e old new None none h step = goes_on n events e old new h step
found_on n events e old new (Some x) none h step = absurd (cc)

-- all events were next
pub found_none : (n : ℕ) (events : List TapeEvent) (here : Replay) (count : ℕ) → count ≡ length events → LeadsTo n events here → IsVerdict n events (Yes count)
found_none n events here count counted h =
    let done = finished n events events here refl h in
    (counted, done.0, done.1)

-- ---- as the loop over the lines goes

-- the lines so far are of events, and the audit has followed these
pub record AuditedSoFar (n : ℕ) (bytes : List ℕ) (number : ℕ) (rest : List ℕ) (progress : Progress) : Type 0 where
  pub events : List TapeEvent
  pub so_far : SoFar (IsTapeEvent n) tape_line bytes events rest
  pub counted : number ≡ length events + 2
  pub under_way : IsUnderWay n events progress

pub audited_none : (n : ℕ) (bytes : List ℕ) (progress : Progress) → IsUnderWay n [] progress → AuditedSoFar n bytes 2 bytes progress
audited_none n bytes progress h = record { events = []; so_far = so_far_none (IsTapeEvent n) tape_line bytes; counted = refl; under_way = h }

pub audited_more : (n : ℕ) (bytes : List ℕ) (number next_number : ℕ) (rest after : List ℕ) (old new : Progress) (e : TapeEvent)
    → AuditedSoFar n bytes number rest old
    → (number < 1000002) × IsTapeEvent n e × (rest ≡ tape_line e ++ after)
    → ((m : ℕ) (events : List TapeEvent) → number ≡ length events + 2 → IsUnderWay m events old → IsUnderWay m (events ++ e ∷ []) new)
    → next_number ≡ number + 1
    → AuditedSoFar n bytes next_number after new
audited_more n bytes number next_number rest after old new e h read follows counts =
    record {
      events = h.events ++ e ∷ [];
      so_far = so_far_on (IsTapeEvent n) tape_line bytes rest after h.events e h.so_far (omega (arith, h.counted, read.0)) read.1 read.2;
      counted = (let l = length-append h.events (e ∷ []) in omega (arith, counts, h.counted, l));
      under_way = follows n h.events h.counted h.under_way;
    }

pub audited_all : (n : ℕ) (bytes : List ℕ) (number : ℕ) (rest : List ℕ) (progress : Progress) (verdict : Verdict) → 1 ≤ n → n ≤ 7 → AuditedSoFar n bytes number rest progress → rest ≡ []
    → ((m : ℕ) (events : List TapeEvent) → number ≡ length events + 2 → IsUnderWay m events progress → IsVerdict m events verdict)
    → IsVerdictOn (nodes_line n ++ bytes) verdict
audited_all n bytes number rest progress verdict some few h none finds =
    let printed = so_far_all (IsTapeEvent n) tape_line bytes rest h.events h.so_far (ap length none) in
    record {
      tape = record { nodes = n; events = h.events };
      lawful = record { some = some; few = few; short = printed.short; each = printed.each };
      read = ap (λ (w : List ℕ). nodes_line n ++ w) printed.split;
      found = finds n h.events h.counted h.under_way;
    }
