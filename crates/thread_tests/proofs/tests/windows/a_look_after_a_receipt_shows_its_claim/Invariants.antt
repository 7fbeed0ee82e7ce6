use Rattle.thread_tests.proofs.tests.windows.a_look_after_a_receipt_shows_its_claim.Given as goal

-- the list that was just made
abbrev pub ghosts-receipts_show_their_claims : goal.ghosts-receipts_show_their_claims
ghosts-receipts_show_their_claims g a = record { book = a.list }
