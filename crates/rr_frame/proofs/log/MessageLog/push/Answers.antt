use Rattle.std.proofs.Common.{◌≡◌, List, [], ◌∷◌, ◌++◌, sym, ap, subst, ◌∙◌}
use Rattle.std.proofs.lemmas.List.{append_assoc}
use Rattle.rr_types.specs.declared.message.Message.{Message}
use Rattle.rr_frame.specs.MessageLogs.{IsEndOf}
use Rattle.rr_frame.proofs.log.MessageLog.push.Goals as goal

-- where the kept are the same, they still stand at the end
same_end : (old new all : List Message) → new ≡ old → IsEndOf old all → IsEndOf new all
same_end old new all same stands = subst (λ (newest : List Message). IsEndOf newest all) (sym same) stands

pub invariant_of-self : goal.invariant_of-self
invariant_of-self c = same_end c.make_room.new.newest.items c.reserve.new.self.items c.self.inside.all c.reserve.ensures.items (c.make_room.ensures c.self.inside.all c.self.invariant)

pub invariant_of-self-in_err-push : goal.invariant_of-self-in_err-push
invariant_of-self-in_err-push c = subst (λ (all : List Message). IsEndOf c.reserve.new.self.items all) (sym c.in_err-push.ensures.unchanged)
    (same_end c.make_room.new.newest.items c.reserve.new.self.items c.self.inside.all c.reserve.ensures.items (c.make_room.ensures c.self.inside.all c.self.invariant))

pub invariant_of-self-2 : goal.invariant_of-self-2
invariant_of-self-2 c =
    let before = same_end c.make_room.new.newest.items c.reserve.new.self.items c.self.inside.all c.reserve.ensures.items (c.make_room.ensures c.self.inside.all c.self.invariant) in
    let all : c.push.new.self ≡ (before.0 ++ c.reserve.new.self.items) ++ c.args.message.now ∷ [] = c.in_ok-push.ensures.ok ∙ ap (λ (xs : List Message). xs ++ c.args.message.now ∷ []) before.1 in
    (before.0, rw c.push_reserved.ensures.items (all ∙ append_assoc before.0 c.reserve.new.self.items (c.args.message.now ∷ [])))
