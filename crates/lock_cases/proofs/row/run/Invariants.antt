use Rattle.lock_cases.proofs.row.run.Given as goal

abbrev pub ghosts-row : goal.ghosts-row
ghosts-row g a = record { book = a.book.book }

abbrev pub ghosts-noted_row : goal.ghosts-noted_row
ghosts-noted_row g a = record { book = a.book.book }
