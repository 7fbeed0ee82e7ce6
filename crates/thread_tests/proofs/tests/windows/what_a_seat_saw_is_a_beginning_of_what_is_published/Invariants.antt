use Rattle.thread_tests.proofs.tests.windows.what_a_seat_saw_is_a_beginning_of_what_is_published.Given as goal

-- the list that was just made
abbrev pub ghosts-looks_are_in_order : goal.ghosts-looks_are_in_order
ghosts-looks_are_in_order g a = record { book = a.list }
