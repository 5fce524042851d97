use Rattle.book_cases.proofs.find.find.Given as goal

abbrev pub ghosts-find_at : goal.ghosts-find_at
ghosts-find_at a = record { name = a.blank.name; parts = a.blank.parts }
