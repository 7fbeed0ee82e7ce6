-- An audit ends as defined: a yes is printed, or a no has its status.
use Rattle.std.proofs.Common.{◌≡◌, ◌∙◌, ◌≤◌, ◌+◌, ◌⊎◌, ℕ, zero, suc, List, ◌∷◌, length, ap, arith, subst, sym, inl, inr}
use Rattle.std.proofs.lemmas.List.{length-append}
use Rattle.rr_stream.specs.Streams.{Printing}
use Rattle.rr_types.specs.declared.refusal.Refusal.TheVariants.{OutOfMemory}
use Rattle.rr_audit.specs.declared.given.Given.{Given}
use Rattle.rr_audit.specs.declared.auditing.Verdict.TheVariants.{Yes, No}
use Rattle.rr_words.specs.declared.tasks.Form.{Form}
use Rattle.rr_words.specs.declared.tasks.Form.TheVariants.{Json}
use Rattle.rr_cli.specs.Ends.{Prints, EndsOnTape, TellsNo, agreed, stopped, no_tape, yes_in}
use Rattle.rr_audit.specs.AuditTexts.{IsVerdictOn}
use Rattle.rr_cli.specs.AuditObjects.{no_status}

-- a yes was printed
pub yes_ends : (form : Form) (bytes : List ℕ) (count status : ℕ) (old new : Printing) → IsVerdictOn bytes (Yes count) → Prints (yes_in form count) status old new → EndsOnTape form bytes status old new
yes_ends form bytes count status old new on prints =
    agreed on.tape on.lawful on.read on.found.1 on.found.2 (subst (λ k. Prints (yes_in form k) status old new) on.found.0 prints)

-- a no was told
pub no_ends : (form : Form) (bytes : List ℕ) (number p : ℕ) (given : Given) (status : ℕ) (old new : Printing) → IsVerdictOn bytes (No number p given) → TellsNo form number status old new → EndsOnTape form bytes status old new
no_ends form bytes number p given status old new on tells = stopped on.tape number on.lawful on.read on.found tells

-- a no was told with its object, or there was no memory for that
pub no_object_ends : (bytes : List ℕ) (number p : ℕ) (given : Given) (status : ℕ) (old new : Printing) → IsVerdictOn bytes (No number p given) → ((status ≡ 6) × (new ≡ old)) ⊎ TellsNo Json number status old new → EndsOnTape Json bytes status old new
no_object_ends bytes number p given status old new on (inl memory) = no_tape OutOfMemory tt memory.0 memory.1
no_object_ends bytes number p given status old new on (inr tells) = no_ends Json bytes number p given status old new on tells

-- the event of a no is one of a million
pub few_events : (bytes : List ℕ) (number p : ℕ) (given : Given) → IsVerdictOn bytes (No number p given) → number ≤ 1000000
few_events bytes number p given on =
    let stops = on.found in
    let all : length on.tape.events ≡ length stops.before + suc (length stops.after) = ap length stops.split ∙ length-append stops.before (stops.event ∷ stops.after) in
    omega (arith, stops.counted, all, on.lawful.short)

-- a no that was to be printed doesn't end with 0
no_status_some : (printing : ℕ) → no_status printing ≡ 0 → ⊥
no_status_some zero none = absurd cc
no_status_some (suc n) none = absurd (omega (arith, none))

pub no_object_some : (number status : ℕ) (old new : Printing) → ((status ≡ 6) × (new ≡ old)) ⊎ TellsNo Json number status old new → status ≡ 0 → ⊥
no_object_some number status old new (inl memory) none = omega (arith, memory.0, none)
no_object_some number status old new (inr tells) none = no_status_some tells.2 (sym tells.4 ∙ none)
