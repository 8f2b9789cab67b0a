use Rattle.tests_run.proofs.tests.desks.two_seats_one_pass_book.Given as goal

abbrev pub ghosts-draw_three-W-Passing : goal.ghosts-draw_three-W-Passing
ghosts-draw_three-W-Passing g a = record { window = 3 }

abbrev pub ghosts-draw_three-W-Ledger : goal.ghosts-draw_three-W-Ledger
ghosts-draw_three-W-Ledger g a = record { name = a.blank.name; parts = a.blank.parts }
