-- What is kept is heard, and the mail stays as it was.
use Rattle.std.proofs.Common.{◌≡◌, ◌∙◌, [], Option, Some, None, length, refl}
use Rattle.rr_model.specs.NodeState.{NodeState, decided_prefix}
use Rattle.rr_turn.specs.Recorded.{Sent}
use Rattle.rr_turn.specs.Chases.{Chase, Kept, heard_of}
use Rattle.rr_turn.specs.declared.chase.Hearing.{Hearing}
use Rattle.rr_turn.specs.declared.chase.Hearing.TheVariants.{Alone, Nothing, After, Before}
use Rattle.rr_turn.specs.Asked.{Ran, still, more}
use Rattle.rr_turn.specs.Turns.{hearing}
use Rattle.rr_turn.specs.Looks.{MeetsAny, HearsKept}
use Rattle.rr_threads.specs.declared.wires.Mail.{Mail}
use Rattle.rr_threads.specs.Mails.{links_give}

module _ {L : Type 0} (mail : L → Mail) where
  -- by the calls with which a message is heard
  heard_by : (h : Hearing) (sent : Sent) (s : NodeState) (from to : L) → Ran (links_give mail) (hearing h sent s) from to → mail to ≡ mail from
  heard_by Alone sent s from to (more call calls old mid new did (still links)) = did
  heard_by Nothing sent s from to (still links) = refl
  heard_by (After held) sent s from to (more call calls old mid new did (more next later at by end then (still links))) = then ∙ did
  heard_by (Before held) sent s from to (more call calls old mid new did (more next later at by end then (still links))) = then ∙ did

  none_heard : (from to : L) → Ran (links_give mail) [] from to → mail to ≡ mail from
  none_heard from to (still links) = refl

  heard_any : (o : Option Sent) (s : NodeState) (c : Chase) (from : L) (t : NodeState) (k : Chase) (to : L) → MeetsAny (links_give mail) o s c from t k to → mail to ≡ mail from
  heard_any None s c from t k to met = none_heard from to met.calls
  heard_any (Some sent) s c from t k to met = heard_by (heard_of (length (decided_prefix s)) sent.message.body c) sent s from to met.calls

  pub heard_kept : (kept : Kept) (s : NodeState) (c : Chase) (from : L) (k : Chase) (to : L) → HearsKept (links_give mail) kept s c from k to → mail to ≡ mail from
  heard_kept kept s c from k to heard =
      heard_any _ _ _ _ _ _ _ heard.decision ∙ heard_any _ _ _ _ _ _ _ heard.opening ∙ heard_any _ _ _ _ _ _ _ heard.request
