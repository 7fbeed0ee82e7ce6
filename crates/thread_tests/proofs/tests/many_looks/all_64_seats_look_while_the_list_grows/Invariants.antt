use Rattle.thread_tests.proofs.tests.many_looks.all_64_seats_look_while_the_list_grows.Given as goal

-- the list that was just made
abbrev pub ghosts-all_seats_look : goal.ghosts-all_seats_look
ghosts-all_seats_look g a = record { book = a.list }
