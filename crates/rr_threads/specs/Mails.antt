-- What a call of a node's thread does to its mail.
use Rattle.std.specs.Prelude.{◌≡◌}
use Rattle.rr_model.specs.NodeState.{NodeState}
use Rattle.rr_turn.specs.Chases.{Chase}
use Rattle.rr_turn.specs.Asked.{Call, puts, puts_late, takes}
use Rattle.rr_turn.specs.Looks.{HearsKept}
use Rattle.rr_threads.specs.declared.wires.Mail.{Mail}
use Rattle.rr_threads.specs.Ways.{IsPutTo, AllPutLate, IsTaken}

-- a message is put into the inbox of the node that is named; what is late is put once more; the oldest message is taken. The other calls
-- leave the mail as it is
abbrev pub mail_gives : Mail → Call → Mail → Type 0
mail_gives a (puts to sent) b = IsPutTo to sent a b
mail_gives a puts_late b = AllPutLate a b
mail_gives a (takes sent) b = IsTaken a sent b
mail_gives a call b = b ≡ a

module _ {L : Type 0} (mail : L → Mail) where
  -- the same, of links that have mail
  abbrev pub links_give : L → Call → L → Type 0
  links_give a call b = mail_gives (mail a) call (mail b)

  -- a node hears what its mail has kept, each once, and its chase is then so
  abbrev pub HearsOwn : Chase → L → Chase → Type 0
  HearsOwn c from k = (s : NodeState) × (to : L) × HearsKept links_give (mail from).kept s c from k to
