-- The number, the name and the text of each refusal.
use Rattle.std.specs.Prelude.{ℕ, List, [], ◌∷◌, ◌++◌, codes, decimal}
use Rattle.std.specs.List.{flat_map}
use Rattle.rr_types.specs.declared.refusal.Refusal.{Refusal}
use Rattle.rr_types.specs.declared.refusal.Refusal.TheVariants.{OutOfMemory, Device, Damaged, Failed, Down, BadNodes, BadName, BadValue, ListFull, RoundsOut, Malformed, StrangeMark, Busy, BadEvent, SeatsTaken, TooLarge, AuditNo, NoGuard}

-- the number of a refusal, which programs may rely on
abbrev pub number_of : Refusal → ℕ
number_of OutOfMemory = 1
number_of Device = 2
number_of (Damaged area offset) = 3
number_of Failed = 4
number_of Down = 5
number_of BadNodes = 6
number_of BadName = 7
number_of BadValue = 8
number_of ListFull = 9
number_of RoundsOut = 10
number_of (Malformed offset) = 11
number_of StrangeMark = 12
number_of Busy = 13
number_of (BadEvent line) = 14
number_of SeatsTaken = 15
number_of TooLarge = 16
number_of (AuditNo index) = 17
number_of NoGuard = 18

-- the name of a refusal, which programs may rely on
abbrev pub name_of : Refusal → List ℕ
name_of OutOfMemory = codes "OutOfMemory"
name_of Device = codes "Device"
name_of (Damaged area offset) = codes "Damaged"
name_of Failed = codes "Failed"
name_of Down = codes "Down"
name_of BadNodes = codes "BadNodes"
name_of BadName = codes "BadName"
name_of BadValue = codes "BadValue"
name_of ListFull = codes "ListFull"
name_of RoundsOut = codes "RoundsOut"
name_of (Malformed offset) = codes "Malformed"
name_of StrangeMark = codes "StrangeMark"
name_of Busy = codes "Busy"
name_of (BadEvent line) = codes "BadEvent"
name_of SeatsTaken = codes "SeatsTaken"
name_of TooLarge = codes "TooLarge"
name_of (AuditNo index) = codes "AuditNo"
name_of NoGuard = codes "NoGuard"

-- the numbers that a refusal says behind its name
abbrev pub numbers_of : Refusal → List ℕ
numbers_of (Damaged area offset) = area ∷ offset ∷ []
numbers_of (Malformed offset) = offset ∷ []
numbers_of (BadEvent line) = line ∷ []
numbers_of (AuditNo index) = index ∷ []
numbers_of _ = []

-- a refusal as a text: its name and its numbers
abbrev pub refusal_text : Refusal → List ℕ
refusal_text r = name_of r ++ flat_map (λ n. 32 ∷ decimal n) (numbers_of r)
