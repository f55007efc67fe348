-- The table is cleared when it is made. Assumes nothing.
use Rattle.turfs.proofs.Refused.{no-stamps}
use Rattle.turfs.proofs.refuse.rows_fit_with.Goals as goal

pub rows_stamped-requires : goal.rows_stamped-requires
rows_stamped-requires g c = record { links_lead = c.requires.links_lead; no_stamps = no-stamps _ g.row.N c.requires.enough c.requires.few }
