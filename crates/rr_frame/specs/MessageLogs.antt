-- Messages kept as their bytes: their spellings one behind another, and where each ends.
use Rattle.std.specs.Prelude.{◌≡◌, ℕ, ◌==◌, nat_le, Bool, ◌&&◌, List, [], ◌∷◌, ◌++◌, length, slice_range, Result, Ok, Err, is_ok}
use Rattle.rr_types.specs.declared.message.Message.{Message}
use Rattle.rr_frame.specs.MessageFormat.{message_in}

-- the message that was read, if one was
abbrev pub found : Result Message ℕ → List Message
found (Ok m) = m ∷ []
found (Err offset) = []

-- the messages that the bytes spell from a place on, where each ends where the next begins
unfoldable pub messages_in : List ℕ → ℕ → List ℕ → List Message
messages_in bytes from [] = []
messages_in bytes from (end ∷ ends) = found (message_in 7 (slice_range bytes from end)) ++ messages_in bytes end ends

-- whether the bytes from a place on are spellings of messages, one behind another, and these are their ends
unfoldable pub are_spellings : List ℕ → ℕ → List ℕ → Bool
are_spellings bytes from [] = from == length bytes
are_spellings bytes from (end ∷ ends) =
    nat_le from end && nat_le end (length bytes) && is_ok (message_in 7 (slice_range bytes from end)) && are_spellings bytes end ends

-- the messages stand at the end of all of these
abbrev pub IsEndOf : List Message → List Message → Type 0
IsEndOf newest all = (older : List Message) × (all ≡ older ++ newest)
