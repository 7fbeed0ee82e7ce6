use Rattle.std.proofs.Common.{◌≡◌, None, true, is_some, arith}
use Rattle.std.specs.BTreeMap.{insert_entry, is_at}
use Rattle.std.specs.BTreeMap.Entry.{entry_map_ref, map_with_value}
use Rattle.std.specs.Map.{lookup}
use Rattle.std.proofs.lemmas.Grind.{common_steps}
use Rattle.rr_registry.specs.Kept.{request_cmp}
use Rattle.rr_registry.proofs.AloneLemmas.{known_alone, same_free, applied_alone, free_alone}
use Rattle.rr_registry.proofs.tables.Tables.apply_one.Goals as goal

pub returns-in-Occupied-clause-kept : goal.returns-in-Occupied-clause-kept
returns-in-Occupied-clause-kept c =
    let place : is_some (lookup (is_at (request_cmp c.args.command.now.request)) c.args.self.now.replies.entries) ≡ true =
    (let found = c.in_ok-_kept.ensures.found in grind (arith, common_steps)) in
    let known = known_alone c.args.self.now c.args.command.now c.requires.sound.1 place in
    let unchanged : (entry_map_ref c.in_ok-_kept.field-0).now.entries ≡ c.args.self.now.replies.entries = c.in_ok-_kept.ensures.unchanged in
    grind (arith, common_steps)

pub returns-in-Occupied-clause-sound : goal.returns-in-Occupied-clause-sound
returns-in-Occupied-clause-sound c =
    let unchanged : (entry_map_ref c.in_ok-_kept.field-0).now.entries ≡ c.args.self.now.replies.entries = c.in_ok-_kept.ensures.unchanged in
    (c.requires.sound.0, same_free c.args.self.now _ (grind (arith, common_steps)) c.requires.sound.1)

pub returns-in_ok-reply-in-Vacant-clause-kept : goal.returns-in_ok-reply-in-Vacant-clause-kept
returns-in_ok-reply-in-Vacant-clause-kept c =
    let found : lookup (is_at (request_cmp c.args.command.now.request)) c.args.self.now.replies.entries ≡ None =
    (let found = c.in_ok-_kept.ensures.found in grind (arith, common_steps)) in
    let entries : (map_with_value c.in_ok-_kept.field-0 c.insert.result.now).entries ≡ insert_entry request_cmp c.args.self.now.replies.entries c.args.command.now.request c.insert.result.now = c.in_ok-_kept.ensures.update.1 c.insert.result.now in
    let applied = applied_alone c.args.self.now c.apply.new.self c.args.command.now c.in_ok-reply-in-Vacant.reply c.entry.ensures.ordered found c.in_ok-reply-in-Vacant.ensures.step in
    grind (arith, common_steps)

pub returns-in_ok-reply-in-Vacant-clause-sound : goal.returns-in_ok-reply-in-Vacant-clause-sound
returns-in_ok-reply-in-Vacant-clause-sound c =
    let entries : (map_with_value c.in_ok-_kept.field-0 c.insert.result.now).entries ≡ insert_entry request_cmp c.args.self.now.replies.entries c.args.command.now.request c.insert.result.now = c.in_ok-_kept.ensures.update.1 c.insert.result.now in (
      c.apply.ensures.counted,
      free_alone c.args.self.now c.apply.new.self _ c.args.command.now.request c.in_ok-reply-in-Vacant.reply c.entry.ensures.ordered
          (grind (arith, common_steps))
          c.requires.sound.1
          c.apply.ensures.free,
    )

pub returns-in_err-reply-in-Vacant-clause-sound : goal.returns-in_err-reply-in-Vacant-clause-sound
returns-in_err-reply-in-Vacant-clause-sound c = (c.apply.ensures.counted, grind (arith, common_steps))
