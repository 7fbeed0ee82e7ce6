-- A longer list gives the replies of its beginnings, and requests that test as equal are equal.
use Rattle.std.proofs.Common.{◌≡◌, true, List, Some, subst}
use mathlib.Core.List.{IsPrefix}
use Rattle.rr_types.specs.declared.command.Command.{Command}
use Rattle.rr_types.specs.declared.command.RequestNo.{RequestNo}
use Rattle.rr_types.specs.declared.command.Reply.{Reply}
use Rattle.rr_types.specs.Registry.{is_same_request, reply_of}
use Rattle.rr_model.proofs.Replies.{same_reply}
use Rattle.rr_state.proofs.SameLemmas.{request_is}

-- a request that passes for another is that request
pub same_request : (p q : RequestNo) → is_same_request p q ≡ true → p ≡ q
same_request = request_is

-- a list that begins with another gives its replies
pub later_reply : (xs ys : List Command) (q : RequestNo) (r : Reply) → IsPrefix xs ys → reply_of xs q ≡ Some r → reply_of ys q ≡ Some r
later_reply xs ys q r front e = subst (λ z. reply_of z q ≡ Some r) front.1 (same_reply xs front.0 q r e)
