use Rattle.std.proofs.Common.{◌∙◌, ap, sym}
use Rattle.std.specs.Result.{result_ok}
use Rattle.std.proofs.lemmas.Option.{slice_get_past}
use Rattle.rr_frame.specs.MessageLogs.{messages_in}
use Rattle.rr_frame.proofs.LogLaws.{IsSpeltBetween, spelt_between, log_length}
use Rattle.rr_frame.proofs.spellings.spelling_of.Goals as goal

pub returns-in_err-end : goal.returns-in_err-end
returns-in_err-end c =
    let none = slice_get_past (messages_in c.args.bytes.now 0 c.args.ends.now) c.args.number (rw (log_length _ _ c.requires) c.in_err-end.ensures.lookup.3) in
    rw c.from_residual.ensures none

-- where the spelling stands
spelt : (c : goal.After-start_of) → IsSpeltBetween c.args.bytes.now c.start_of.result c.in_ok-end.field-0.now c.args.number (messages_in c.args.bytes.now 0 c.args.ends.now)
spelt c =
    let at = c.in_ok-end.ensures.lookup.3 in
    spelt_between c.args.bytes.now c.args.ends.now c.args.number c.start_of.result c.in_ok-end.field-0.now c.requires at.0 c.start_of.ensures (at.1 0)

pub slice_bounds-result-count : goal.slice_bounds-result-count
slice_bounds-result-count c = (spelt c).in_order

pub slice_bounds-result-start : goal.slice_bounds-result-start
slice_bounds-result-start c = (spelt c).in_order

pub slice_bounds-result-end : goal.slice_bounds-result-end
slice_bounds-result-end c = (spelt c).within

pub returns : goal.returns
returns c =
    let at = c.in_ok-end.ensures.lookup.3 in
    let s = spelt_between c.args.bytes.now c.args.ends.now c.args.number c.start_of.result c.in_ok-end.field-0.now c.requires at.0 c.start_of.ensures (at.1 0) in
    s.listed ∙ sym (ap result_ok s.read)
