-- What a client has put on its counter, once it has waited.
use Rattle.std.proofs.Common.{◌≡◌, ◌∙◌, ◌++◌, ◌∷◌, [], ℕ, zero, suc, Option, Some, refl}
use Rattle.rr_types.specs.declared.command.Command.{Command}
use Rattle.rr_types.specs.declared.command.RequestNo.{RequestNo}
use Rattle.rr_turn.specs.Asked.{Ran, still, more, wants_reply, notes_wanted, wakes_loop}
use Rattle.rr_turn.specs.Waits.{Stop, is_told, is_ending, is_late, Awaits, waits, seen}
use Rattle.rr_threads.specs.declared.desk.Wanted.{Wanted}
use Rattle.rr_threads.specs.Errands.{gives_there}

module _ {L : Type 0} (wanted : L → Option Wanted) where
  seen_there : (stop : Stop) (from to : L) → Ran (gives_there wanted) (seen stop) from to → wanted to ≡ wanted from
  seen_there is_told from to (more call calls old mid new did (still links)) = did
  seen_there is_ending from to (more call calls old mid new did (more next later at by end then (still links))) = then ∙ did
  seen_there is_late from to (still links) = refl

  waited_there : (n : ℕ) (stop : Stop) (from to : L) → Ran (gives_there wanted) (waits n ++ seen stop) from to → wanted to ≡ wanted from
  unfolding waits
  waited_there zero stop from to ran = seen_there stop from to ran
  waited_there (suc n) stop from to (more call calls old mid new did (more next later at by end then (more third last two three four rested rest))) =
      waited_there n stop three to rest ∙ rested ∙ then ∙ did

  -- it is the command that it waits for
  pub awaited : (node : ℕ) (command : Command) (looks rests : ℕ) (receipt : Option RequestNo) (from to : L)
      → Awaits (gives_there wanted) node command looks rests receipt from to → wanted to ≡ Some (record { command = command })
  awaited node command looks rests receipt from to did = did.takes ∙ waited_there rests did.waits_at.stop did.asked_at did.waited_at did.waits_at.calls ∙ asked_there did.asked_at did.asks
    where
      asked_there : (at : L) → Ran (gives_there wanted) (wants_reply command ∷ notes_wanted ∷ wakes_loop node ∷ []) from at → wanted at ≡ Some (record { command = command })
      asked_there at (more call calls old mid new did (more next later here by end then (more third last two three four rung (still links)))) = rung ∙ then ∙ did
