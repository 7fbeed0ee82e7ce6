-- A turn of a publisher.
use Rattle.std.proofs.Common.{◌≡◌, ◌<◌, ◌≤◌, ◌∷◌, [], List, length, drop, Option, Some, None, Result, Ok, Err, true, false, refl, sym, subst, arith}
use Rattle.std.specs.Prelude.{IfOk, IfSome}
use Rattle.std.specs.List.{HoldsAt}
use mathlib.Core.List.{IsPrefix}
use Rattle.rr_types.specs.declared.command.Command.{Command}
use Rattle.rr_types.specs.declared.command.RequestNo.{RequestNo}
use Rattle.rr_types.specs.declared.command.Reply.{Reply}
use Rattle.rr_types.specs.declared.refusal.Refusal.{Refusal}
use Rattle.rr_types.specs.Registry.{reply_of}
use Rattle.rr_model.specs.NodeState.{NodeState, decided_prefix}
use Rattle.rr_model.specs.NodeStep.{next_acknowledged, acknowledged}
use Rattle.rr_window.specs.Windows.{Publishing}
use Rattle.rr_turn.specs.Listed.{listed}
use Rattle.rr_turn.specs.Asked.{Call, acknowledges, tells_clients}
use Rattle.rr_turn.specs.Tells.{Follows, TellsOne, Tells}

module _ {C : Type 0} (gives : C → Call → C → Type 0) where
  -- what is marked is taken on, and then a request is acknowledged or isn't
  pub follows_by : (s t : NodeState) (p q : Publishing) (from to : C) (r : Result (Option (RequestNo × Reply)) Refusal) → (IsPrefix (listed p) (decided_prefix s) → listed q ≡ decided_prefix s)
      → IsPrefix (listed p) (listed q) → q.published ≡ p.published → IfOk r (λ told. gives from (acknowledges s told) to)
      → IfOk r (λ told. IfSome told (λ a. (next_acknowledged s ≡ Some a.0) × (reply_of (decided_prefix s) a.0 ≡ Some a.1) × (t ≡ acknowledged s)))
      → IfOk r (λ told. Follows gives s told p q from to)
  follows_by s t p q from to (Ok None) all kept published call some = record { all = all; kept = kept; published = published; call = call; replied = tt }
  follows_by s t p q from to (Ok (Some a)) all kept published call some = record { all = all; kept = kept; published = published; call = call; replied = (some.0, some.1) }
  follows_by s t p q from to (Err e) all kept published call some = tt

  -- nobody waits to be told
  pub told_none : (published : List Command) (waiting : List RequestNo) (c : C) → length waiting ≤ 0 → Tells gives published waiting waiting false c c
  told_none published [] c few = (refl, refl, refl)
  told_none published (q ∷ qs) c few = absurd (omega arith)

  -- the oldest that waits has no published reply yet
  pub told_later : (published : List Command) (waiting : List RequestNo) (request : RequestNo) (c : C) → 0 < length waiting → HoldsAt (λ q. request ≡ q) waiting 0 → reply_of published request ≡ None
      → Tells gives published waiting waiting false c c
  told_later published [] request c some first none = absurd (omega arith)
  told_later published (q ∷ qs) request c some first none =
      subst (λ o. TellsOne gives o published q qs (q ∷ qs) false c c) (sym (subst (λ q. reply_of published q ≡ None) (first q) none)) (refl, refl, refl)

  -- or has one, and is told
  pub told_one : (published : List Command) (waiting after : List RequestNo) (request : RequestNo) (reply : Reply) (from to : C) → 0 < length waiting → HoldsAt (λ q. request ≡ q) waiting 0
      → reply_of published request ≡ Some reply → after ≡ drop 1 waiting → gives from (tells_clients published request reply) to → Tells gives published waiting after true from to
  told_one published [] after request reply from to there first some rest told = absurd (omega arith)
  told_one published (q ∷ qs) after request reply from to there first some rest told =
      subst (λ o. TellsOne gives o published q qs after true from to) (sym (subst (λ q. reply_of published q ≡ Some reply) (first q) some))
      (rest, refl, subst (λ q. gives from (tells_clients published q reply) to) (first q) told)
