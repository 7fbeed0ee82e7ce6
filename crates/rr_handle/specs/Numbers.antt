-- The numbers of replies for C.
use Rattle.std.specs.Prelude.{ℕ}
use Rattle.rr_types.specs.declared.command.ReplyKind.{ReplyKind}
use Rattle.rr_types.specs.declared.command.ReplyKind.TheVariants.{Claimed, Updated, Released, Transferred, Taken, Unknown, NotOwner, Full}

-- the number of what a reply says
abbrev pub reply_number : ReplyKind → ℕ
reply_number Claimed = 1
reply_number Updated = 2
reply_number Released = 3
reply_number Transferred = 4
reply_number Taken = 5
reply_number Unknown = 6
reply_number NotOwner = 7
reply_number Full = 8
