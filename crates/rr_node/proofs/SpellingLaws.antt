-- The group that a steady node is flushing has a spelling, and so has the snapshot to which it switches.
use Rattle.std.proofs.Common.{◌≡◌, ℕ, ◌≤◌, true, eqb, List, [], ◌∷◌, Option, None, Some, sym, subst}
use Rattle.std.specs.Prelude.{IfSome}
use Rattle.std.specs.List.{AllByRecursion, list_all}
use Rattle.std.proofs.lemmas.Bool.{and_parts, eqb-true}
use Rattle.rr_types.specs.declared.command.Command.{Command}
use Rattle.rr_types.specs.declared.promise.Entry.{Entry}
use Rattle.rr_types.specs.declared.promise.Standing.{Standing}
use Rattle.rr_types.specs.declared.promise.Standing.TheVariants.{Decided, Open}
use Rattle.rr_types.specs.Groups.{Grouped}
use Rattle.rr_types.specs.Rounds.{coordinator_of}
use Rattle.rr_model.specs.NodeState.{NodeState}
use Rattle.rr_model.specs.NodeStep.{running_group}
use Rattle.rr_disk.specs.Areas.{Areas}
use Rattle.rr_frame.specs.declared.version.Version.TheVariants.{Two}
use Rattle.rr_frame.specs.CommandFormat.{IsLawfulCommand}
use Rattle.rr_frame.specs.GroupFormat.{IsLawfulGroup}
use Rattle.rr_frame.specs.Snapshots.{IsSnapshot, is_by_coordinator, proposes_lawfully}
use Rattle.rr_frame.specs.SnapshotFormat.{IsLawfulSnapshot, IsLawfulStandingIn, IsLawfulEntryIn}
use Rattle.rr_journal.specs.Image.{Found}
use Rattle.rr_journal.specs.declared.opening.Phase.{Phase}
use Rattle.rr_journal.specs.declared.opening.Phase.TheVariants as step
use Rattle.rr_journal.specs.Openings.{snapshot_with}
use Rattle.rr_journal.specs.OpeningTable.{OpensAny}
use Rattle.rr_journal.specs.Phases.{phase_of}
use Rattle.rr_journal.specs.Rewrites.{content_anew}
use Rattle.rr_journal.specs.Flushes as gate
use Rattle.rr_journal.specs.declared.journal.Journal.{Journal}
use Rattle.rr_node.specs.declared.doing.Doing as code
use Rattle.rr_node.specs.declared.doing.Doing.TheVariants as does
use Rattle.rr_node.specs.declared.serving.Flush.{Flush}
use Rattle.rr_node.specs.declared.serving.Flush.TheVariants as flush
use Rattle.rr_node.specs.Runs.{IsAnewSpelt, IsSpelt}
use Rattle.rr_node.specs.Seats as seats
use Rattle.rr_node.specs.Views.{NodeDisk, areas_in, journaled_of, flush_of, doing_of, IsJobOf, IsFlushOf, IsSteady}

job_spelt : (s : NodeState) (j : Journal NodeDisk) (job : gate.Flush) → IsJobOf s j job → IfSome (running_group s) IsLawfulGroup
job_spelt s j job h = subst (λ (o : Option Grouped). IfSome o IsLawfulGroup) (sym h.group) h.lawful

flush_spelt : (s : NodeState) (j : Journal NodeDisk) (f : Flush) → IsFlushOf s j f → IsSpelt (seats.Serving s (journaled_of j) (flush_of f))
flush_spelt s j flush.Resting h = tt
flush_spelt s j (flush.Body job) h = job_spelt s j job h
flush_spelt s j (flush.BodyOut job) h = job_spelt s j job h
flush_spelt s j (flush.BodySafe job) h = job_spelt s j job h
flush_spelt s j (flush.GateSet job) h = job_spelt s j job h
flush_spelt s j (flush.Flushed synced) h = tt
flush_spelt s j (flush.Switching job) h = h.lawful

-- entries that have a spelling at one node have one at each where their proposals may stand
proposal_spelt : (n p m q r : ℕ) (v : Option Command) → IfSome v (λ c. (coordinator_of r n ≡ p) × IsLawfulCommand c) → is_by_coordinator (eqb (coordinator_of r m) q) v ≡ true → IfSome v (λ c. (coordinator_of r m ≡ q) × IsLawfulCommand c)
proposal_spelt n p m q r None h may = tt
proposal_spelt n p m q r (Some v) h may = (eqb-true _ _ may, h.1)

standing_spelt : (n p m q : ℕ) (s : Standing) → IsLawfulStandingIn Two n p s → proposes_lawfully m q s ≡ true → IsLawfulStandingIn Two m q s
standing_spelt n p m q (Decided v) h may = h
standing_spelt n p m q (Open o) h may = record { round = h.round; stamp = h.stamp; estimate = h.estimate; proposal = proposal_spelt n p m q o.round o.proposal h.proposal may }

entries_spelt : (n p m q : ℕ) (es : List Entry) → AllByRecursion (IsLawfulEntryIn Two n p) es → list_all (λ (e : Entry). proposes_lawfully m q e.standing) es ≡ true → AllByRecursion (IsLawfulEntryIn Two m q) es
entries_spelt n p m q [] h may = tt
entries_spelt n p m q (e ∷ es) h may =
    let both = and_parts _ _ may in
    (record { instance = h.0.instance; standing = standing_spelt n p m q e.standing h.0.standing both.0 }, entries_spelt n p m q es h.1 both.1)

-- the snapshot that an opening writes
anew_spelt : (n p : ℕ) (f : Found) → IsLawfulSnapshot (snapshot_with n p (content_anew f)) → (m q : ℕ) → m ≤ 7 → IsSnapshot (snapshot_with m q (content_anew f)) → IsLawfulSnapshot (snapshot_with m q (content_anew f))
anew_spelt n p f lawful m q few holds = record {
  node = holds.node;
  nodes = few;
  epoch = lawful.epoch;
  next = lawful.next;
  empty = lawful.empty;
  ascending = lawful.ascending;
  entries = entries_spelt n p m q (content_anew f).promise lawful.entries holds.proposals;
}

opening_spelt : (n p : ℕ) (phase : Phase) (both : Areas) → OpensAny n p phase both → IsAnewSpelt (phase_of phase)
opening_spelt n p step.Settling both h = tt
opening_spelt n p step.ReadingFirst both h = tt
opening_spelt n p (step.ReadingSecond first) both h = tt
opening_spelt n p (step.Rewriting rewrite) both h = anew_spelt n p rewrite.found h.spelt

pub steady_spelt : (n p : ℕ) (doing : code.Doing) → IsSteady n p doing → IsSpelt (doing_of doing)
steady_spelt n p (does.Stopped disk) h = tt
steady_spelt n p (does.Faulted disk) h = tt
steady_spelt n p (does.Opening o) h = opening_spelt n p o.phase (areas_in o.disk) h.3
steady_spelt n p (does.Serving s) h = flush_spelt s.core s.slots s.flush h.flush

-- so it is what a steady node comes to
pub steadily_spelt : (n p : ℕ) (inside taken left last : code.Doing) {G : Type 0} → IsSteady n p inside → taken ≡ inside → (IsSteady n p taken → G × IsSteady n p left) → last ≡ left → IsSpelt (doing_of last)
steadily_spelt n p inside taken left last steady same carries after =
    subst (λ (d : code.Doing). IsSpelt (doing_of d)) (sym after) (steady_spelt n p left (carries (subst (λ (d : code.Doing). IsSteady n p d) (sym same) steady)).1)
