use Rattle.net_text.proofs.read_pieces.read_place.Goals as goal

pub returns-in-None : goal.returns-in-None
returns-in-None c = λ p fits e. c.in-None.ensures (p.unit, p.place) (fits.unit, fits.place) e
