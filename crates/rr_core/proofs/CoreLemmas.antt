-- States that stay lawful, and a started node, which is kept.
use Rattle.std.proofs.Common.{◌≡◌, ◌+◌, ◌^◌, ◌<◌, ℕ, arith, Bool, true, false, eqb, List, [], ◌∷◌, map, ap, refl, option_map}
use Rattle.rr_types.specs.declared.command.Command.{Command}
use Rattle.rr_types.specs.declared.message.Message.{Message}
use Rattle.rr_types.specs.declared.promise.Entry.{Entry}
use Rattle.rr_types.specs.Promises.{IsAscending, standing_in}
use Rattle.rr_registry.specs.Kept.{Kept, kept_of}
use Rattle.rr_model.specs.NodeState.{NodeState, Row, next_number, row_of, decided_prefix}
use Rattle.rr_model.specs.NodeParts.{restate_all}
use Rattle.rr_model.specs.NodeStep.{submitted, heard, ticked_on, advanced, restored, promised_row}
use Rattle.rr_core.specs.Lawful.{IsLawful}
use Rattle.rr_core.specs.Kept.{IsKept}
use Rattle.rr_core.proofs.QuietLaws.{IsQuiet, quiet_step}
use Rattle.rr_core.proofs.PartLaws.{restate_all_quiet}
use Rattle.rr_core.proofs.StepLaws as law

pub submit_lawful : (c : Command) (s : NodeState) → IsLawful s → IsLawful (submitted c s)
submit_lawful = law.submitted_lawful

pub hear_lawful : (m : Message) (s : NodeState) → IsLawful s → IsLawful (heard m s)
hear_lawful = law.heard_lawful

pub suspect_lawful : (set : ℕ) (s : NodeState) → IsLawful s → IsLawful (record s { suspects = set })
suspect_lawful set s h = record { ascends = h.ascends; fits = h.fits; stands = h.stands; few = h.few }

pub tick_lawful : (s : NodeState) → IsLawful s → IsLawful (ticked_on s)
tick_lawful = law.ticked_lawful

pub advance_lawful : (s : NodeState) → IsLawful s → IsLawful (advanced s)
advance_lawful = law.advanced_lawful

-- the rows of a promise have its standings
promised-standing : (next : ℕ) (es : List Entry) (i : ℕ) → option_map (λ (r : Row). r.standing) (row_of (map (promised_row next) es) i) ≡ standing_in es i
promised-standing next [] i = refl
promised-standing next (e ∷ es) i = by (promised-standing next es i) (eqb e.instance i) refl
  where
    by : option_map (λ (r : Row). r.standing) (row_of (map (promised_row next) es) i) ≡ standing_in es i → (b : Bool) → eqb e.instance i ≡ b → option_map (λ (r : Row). r.standing) (row_of (map (promised_row next) (e ∷ es)) i) ≡ standing_in (e ∷ es) i
    by more true h = rw h refl
    by more false h = rw h more

-- a restored node is lawful
restored_lawful : (n p next : ℕ) (es : List Entry) → IsAscending es → IsLawful (restored n p es next)
restored_lawful n p next es a = record {
  ascends = a;
  fits = refl;
  stands = λ i. promised-standing next es i;
  few = tt;
}

-- a started node is kept
pub start_kept : (n p next : ℕ) (es : List Entry) (k : Kept) (s t : NodeState) (is : List ℕ) → IsAscending es → next < 2 ^ 64 → k ≡ kept_of (decided_prefix t) → s ≡ restored n p es next → t ≡ restate_all is s → IsKept t k
start_kept n p next es k s t is a m e f g =
    let q : IsQuiet s (restate_all is s) = restate_all_quiet is s in
    let lawful : IsLawful s = rw f (restored_lawful n p next es a) in
    let before : next_number s ≡ next + 0 + 0 = ap next_number f in
    record {
      lawful = rw g ((quiet_step s _ q).lawful lawful);
      room = rw g (let there : next_number (restate_all is s) ≡ next_number s = rw (q.ends, q.running, q.staged) refl in omega arith);
      kept = e;
    }
