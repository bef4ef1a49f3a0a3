use Rattle.order_certificate.proofs.LinesOfPlaces.{line_says}
use Rattle.order_certificate.proofs.laws.lines_say_their_places.Goals as goal

pub returns : goal.returns
returns c = line_says
