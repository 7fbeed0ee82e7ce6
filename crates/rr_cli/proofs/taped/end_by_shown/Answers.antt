use Rattle.rr_cli.proofs.taped.end_by_shown.Goals as goal

pub returns-in-Account-clause-ends : goal.returns-in-Account-clause-ends
returns-in-Account-clause-ends g c = rw c.in-Account.is c.end_by_text.ensures.ends

pub returns-in-Picture-clause-ends : goal.returns-in-Picture-clause-ends
returns-in-Picture-clause-ends g c = rw c.in-Picture.is c.end_by_cut.ensures.ends

pub returns-in-Page-clause-ends : goal.returns-in-Page-clause-ends
returns-in-Page-clause-ends g c = rw c.in-Page.is c.end_by_cut-in-Page.ensures.ends
