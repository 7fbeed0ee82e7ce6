-- The data of a page, one event after the other: an explanation of the events so far goes along.
use Rattle.std.proofs.Common.{◌≡◌, ◌≤◌, ◌++◌, ◌+◌, ◌-◌, ◌<◌, ◌∷◌, [], ℕ, List, Option, Some, length, take, drop, refl, ap, sym, ◌∙◌, arith}
use Rattle.std.specs.Prelude.{slice_get, if◌then◌else◌, Bool}
use Rattle.std.proofs.lemmas.List.{append_assoc, append-nil}
use Rattle.rr_text.specs.declared.event.Event.{Event}
use Rattle.rr_json.specs.Objects.{decided_objects}
use Rattle.rr_text.specs.declared.report.ReportLine.{ReportLine}
use Rattle.rr_account.specs.declared.outcome.Outcome.{Outcome}
use Rattle.rr_account.specs.declared.reasons.Reason.{Reason}
use Rattle.rr_account.specs.Accounts.{Accounted, lines_told}
use Rattle.rr_account.specs.Counts.{reason_of, is_idle}
use Rattle.rr_account.specs.Decisions.{AreDecisions}
use Rattle.rr_account.specs.Objects.{Happening, happening_object, lines_of, IsAnObject}
use Rattle.rr_account.specs.Pages.{page_head, page_objects, page_object_within, decided_on, IsPageObjectWithin, IsPageData}
use Rattle.rr_account.proofs.ExplanationLemmas.{ToldSoFar, told_none, told_more, told_more_has, told_end}

page_more : (from to : ℕ) (decided : List (Option ℕ)) (at : ℕ) (hs : List Happening) (h : Happening)
    → page_objects from to decided at (hs ++ h ∷ [])
    ≡ page_objects from to decided at hs ++ page_object_within from to (at + length hs) h (decided_on decided (at + length hs))
page_more from to decided at [] h =
    append-nil (page_object_within from to at h (decided_on decided at))
    ∙ ap (λ (k : ℕ). page_object_within from to k h (decided_on decided k)) (omega arith)
page_more from to decided at (x ∷ xs) h =
    ap (λ (t : List ℕ). page_object_within from to at x (decided_on decided at) ++ t)
    (page_more from to decided (at + 1) xs h
    ∙ ap (λ (k : ℕ). page_objects from to decided (at + 1) xs ++ page_object_within from to k h (decided_on decided k)) (omega arith))
    ∙ sym (append_assoc (page_object_within from to at x (decided_on decided at)) (page_objects from to decided (at + 1) xs)
    (page_object_within from to (at + length (x ∷ xs)) h (decided_on decided (at + length (x ∷ xs)))))

-- the events so far have their objects on the page
pub record PageSoFar (account : Accounted) (from to : ℕ) (decided : List (Option ℕ)) (index at count : ℕ) (text : List ℕ) : Type 0 where
  pub whole : List ℕ
  pub told : ToldSoFar account index at count whole
  pub text_is : text ≡ page_head account.schedule.nodes ++ page_objects from to decided 2 told.happenings

pub page_none : (account : Accounted) (from to : ℕ) (decided : List (Option ℕ)) (text : List ℕ) → text ≡ page_head account.schedule.nodes → PageSoFar account from to decided 0 2 0 text
unfolding told_none
page_none account from to decided text is = record { whole = []; told = told_none account; text_is = is ∙ sym (append-nil (page_head account.schedule.nodes)) }

pub page_next : (account : Accounted) (from to : ℕ) (decided : List (Option ℕ)) (index at count next : ℕ) (is_told : Bool) (e : Event) (l : Option ReportLine) (reason : Reason) (text all : List ℕ)
    → PageSoFar account from to decided index at count text
    → drop index account.schedule.events ≡ e ∷ drop (index + 1) account.schedule.events → take next account.report.lines ≡ take count account.report.lines ++ lines_of l
    → IsPageObjectWithin from to at e l (is_idle reason) (decided_on decided at) text all → index < length account.schedule.events
    → (count + (if is_told then 1 else 0) ≤ length account.report.lines → next ≡ count + (if is_told then 1 else 0))
    → ((outcome : Outcome) → slice_get account.outcomes (at - 2) ≡ Some outcome → count + lines_told outcome ≤ length account.report.lines → (if is_told then 1 else 0) ≡ lines_told outcome)
    → ((outcome : Outcome) → slice_get account.outcomes (at - 2) ≡ Some outcome → reason ≡ reason_of outcome (slice_get account.report.lines count))
    → PageSoFar account from to decided (index + 1) (at + 1) next all
page_next account from to decided index at count next is_told e l reason text all s first on one inside counted came said =
    let h : Happening = record { event = e; line = l; idle = is_idle reason; note = one.note } in
    let object : IsAnObject at e l (is_idle reason) s.whole (s.whole ++ happening_object at h) = record { note = one.note; grew = refl } in
    let line_is : at ≡ 2 + length s.told.happenings = omega (s.told.line_is, s.told.counted, arith) in
    let told : ToldSoFar account (index + 1) (at + 1) next (s.whole ++ happening_object at h) =
    told_more account index at count next is_told e l reason s.whole (s.whole ++ happening_object at h) s.told first on object inside counted came said in
    let has : told.happenings ≡ s.told.happenings ++ h ∷ [] =
    told_more_has account index at count next is_told e l reason s.whole (s.whole ++ happening_object at h) s.told first on object inside counted came said in
    record {
      whole = s.whole ++ happening_object at h;
      told = told;
      text_is = one.grew ∙ ap (λ (t : List ℕ). t ++ page_object_within from to at h (decided_on decided at)) s.text_is
          ∙ append_assoc (page_head account.schedule.nodes) (page_objects from to decided 2 s.told.happenings) (page_object_within from to at h (decided_on decided at))
          ∙ ap (λ (t : List ℕ). page_head account.schedule.nodes ++ t)
          (ap (λ (k : ℕ). page_objects from to decided 2 s.told.happenings ++ page_object_within from to k h (decided_on decided k)) line_is ∙ sym (page_more from to decided 2 s.told.happenings h))
          ∙ ap (λ (hs : List Happening). page_head account.schedule.nodes ++ page_objects from to decided 2 hs) (sym has);
    }

pub page_end : (account : Accounted) (from to : ℕ) (decided : List (Option ℕ)) (index at count : ℕ) (text all : List ℕ) → PageSoFar account from to decided index at count text
    → AreDecisions account decided → drop index account.schedule.events ≡ [] → all ≡ text ++ decided_objects account.report.decided → length account.schedule.events ≤ index
    → IsPageData account from to all
unfolding told_end
page_end account from to decided index at count text all s are none is past = record {
  whole = s.whole ++ decided_objects account.report.decided;
  explains = told_end account index at count s.whole (s.whole ++ decided_objects account.report.decided) s.told none refl past;
  decided = decided;
  are_decisions = are;
  text_is = is ∙ ap (λ (t : List ℕ). t ++ decided_objects account.report.decided) s.text_is;
}

-- a text that grew twice
grow : (old x y mid new : List ℕ) → mid ≡ old ++ x → new ≡ mid ++ y → new ≡ old ++ (x ++ y)
grow old x y mid new first second = second ∙ ap (λ (t : List ℕ). t ++ y) first ∙ append_assoc old x y

-- five texts that are appended in turn
pub five_more : (old a b c d e first second third fourth new : List ℕ) → first ≡ old ++ a → second ≡ first ++ b → third ≡ second ++ c → fourth ≡ third ++ d → new ≡ fourth ++ e
    → new ≡ old ++ (a ++ b ++ c ++ d ++ e)
five_more old a b c d e first second third fourth new one two three four five =
    grow old (a ++ b ++ c ++ d) e fourth new (grow old (a ++ b ++ c) d third fourth (grow old (a ++ b) c second third (grow old a b first second one two) three) four) five
