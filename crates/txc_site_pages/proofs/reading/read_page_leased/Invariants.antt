use Rattle.txc_site_pages.proofs.reading.read_page_leased.Given as goal

-- the client as it is, and these bounds
abbrev pub ghosts-read_begun_leased : goal.ghosts-read_begun_leased
ghosts-read_begun_leased g a = record { client = a.client; bounds = a.bounds }
