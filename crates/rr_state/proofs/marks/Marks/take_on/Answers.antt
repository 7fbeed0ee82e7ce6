use Rattle.std.proofs.Common.{◌≡◌, None, Some, refl, ap, sym, ◌∙◌}
use Rattle.rr_types.specs.Facts.{after_fact}
use Rattle.rr_types.specs.declared.promise.Entry.{Entry}
use Rattle.rr_state.proofs.MarkLemmas.{stands}
use Rattle.rr_state.proofs.PrefixLemmas.{place_behind, entry_in_place, round_in_place, taken_in_place, left_in_place}
use Rattle.rr_state.proofs.marks.Marks.take_on.Goals as goal

pub take_on-requires : goal.take_on-requires
take_on-requires c =
    let m = c.args.self.now in
    let i = c.number.result in
    let e = c.number.ensures.value ∙ c.instance-instance.ensures in
    let place = place_behind m c.args.fact.now i (Some c.in-Some-place.entry) c.requires.marks c.requires.behind e c.get_mut.ensures.ordered (ap Some (sym c.in-Some-place.is) ∙ c.in-Some.ensures.value) in
    round_in_place m c.args.fact.now i (Some c.in-Some-place.entry) c.requires.marks place e c.requires.round

pub returns-in-Some-place-clause-value : goal.returns-in-Some-place-clause-value
returns-in-Some-place-clause-value c =
    let m = c.args.self.now in
    let i = c.number.result in
    let e = c.number.ensures.value ∙ c.instance-instance.ensures in
    let place = place_behind m c.args.fact.now i (Some c.in-Some-place.entry) c.requires.marks c.requires.behind e c.get_mut.ensures.ordered (ap Some (sym c.in-Some-place.is) ∙ c.in-Some.ensures.value) in
    let x : Entry = record { instance = c.in-Some-place.entry.instance; standing = c.take_on.new.self } in
    let n = record m { entries = c.get_mut.follows.lender (Some x) } in
    (taken_in_place m n c.args.fact.now i (Some c.in-Some-place.entry) x c.requires.marks place e (entry_in_place m i c.in-Some-place.entry c.requires.marks place) c.number.ensures.range c.take_on.ensures refl refl (c.get_mut.follows.holds (Some x)).0).value

pub returns-in-Some-place-clause-marks : goal.returns-in-Some-place-clause-marks
returns-in-Some-place-clause-marks c =
    let m = c.args.self.now in
    let i = c.number.result in
    let e = c.number.ensures.value ∙ c.instance-instance.ensures in
    let place = place_behind m c.args.fact.now i (Some c.in-Some-place.entry) c.requires.marks c.requires.behind e c.get_mut.ensures.ordered (ap Some (sym c.in-Some-place.is) ∙ c.in-Some.ensures.value) in
    let x : Entry = record { instance = c.in-Some-place.entry.instance; standing = c.take_on.new.self } in
    let n = record m { entries = c.get_mut.follows.lender (Some x) } in
    (taken_in_place m n c.args.fact.now i (Some c.in-Some-place.entry) x c.requires.marks place e (entry_in_place m i c.in-Some-place.entry c.requires.marks place) c.number.ensures.range c.take_on.ensures refl refl (c.get_mut.follows.holds (Some x)).0).marks

pub returns-in-Some-first-clause-value : goal.returns-in-Some-first-clause-value
returns-in-Some-first-clause-value c =
    let m = c.args.self.now in
    let i = c.number.result in
    let e = c.number.ensures.value ∙ c.instance-instance.ensures in
    let place = place_behind m c.args.fact.now i None c.requires.marks c.requires.behind e c.get_mut.ensures.ordered (ap Some (sym c.in-None.is) ∙ c.in-Some.ensures.value) in
    let x : Entry = record { instance = c.instance-instance.result; standing = c.in-Some-first.standing } in
    let n = record m { entries = c.get_mut.follows.lender (Some x) } in
    (taken_in_place m n c.args.fact.now i None x c.requires.marks place e c.number.ensures.value c.number.ensures.range (sym c.in-Some-first.is ∙ c.first.ensures) refl refl (c.get_mut.follows.holds (Some x)).0).value

pub returns-in-Some-first-clause-marks : goal.returns-in-Some-first-clause-marks
returns-in-Some-first-clause-marks c =
    let m = c.args.self.now in
    let i = c.number.result in
    let e = c.number.ensures.value ∙ c.instance-instance.ensures in
    let place = place_behind m c.args.fact.now i None c.requires.marks c.requires.behind e c.get_mut.ensures.ordered (ap Some (sym c.in-None.is) ∙ c.in-Some.ensures.value) in
    let x : Entry = record { instance = c.instance-instance.result; standing = c.in-Some-first.standing } in
    let n = record m { entries = c.get_mut.follows.lender (Some x) } in
    (taken_in_place m n c.args.fact.now i None x c.requires.marks place e c.number.ensures.value c.number.ensures.range (sym c.in-Some-first.is ∙ c.first.ensures) refl refl (c.get_mut.follows.holds (Some x)).0).marks

pub returns-in_default-first-clause-value : goal.returns-in_default-first-clause-value
returns-in_default-first-clause-value c =
    let m = c.args.self.now in
    let p = c.in-Some.place.now in
    let i = c.number.result in
    let e = c.number.ensures.value ∙ c.instance-instance.ensures in
    let place = place_behind m c.args.fact.now i p c.requires.marks c.requires.behind e c.get_mut.ensures.ordered c.in-Some.ensures.value in
    let n = record m { entries = c.get_mut.follows.lender p } in
    let none : after_fact (stands p) c.args.fact.now ≡ None = ap (λ o. after_fact (stands o) c.args.fact.now) c.in-None.is ∙ sym c.first.ensures ∙ c.in_default-first.is in
    (left_in_place m n c.args.fact.now i p c.requires.marks place e none refl refl (c.get_mut.follows.holds p).0).value

pub returns-in_default-first-clause-marks : goal.returns-in_default-first-clause-marks
returns-in_default-first-clause-marks c =
    let m = c.args.self.now in
    let p = c.in-Some.place.now in
    let i = c.number.result in
    let e = c.number.ensures.value ∙ c.instance-instance.ensures in
    let place = place_behind m c.args.fact.now i p c.requires.marks c.requires.behind e c.get_mut.ensures.ordered c.in-Some.ensures.value in
    let n = record m { entries = c.get_mut.follows.lender p } in
    let none : after_fact (stands p) c.args.fact.now ≡ None = ap (λ o. after_fact (stands o) c.args.fact.now) c.in-None.is ∙ sym c.first.ensures ∙ c.in_default-first.is in
    (left_in_place m n c.args.fact.now i p c.requires.marks place e none refl refl (c.get_mut.follows.holds p).0).marks
