use Rattle.kernel_front.proofs.Counted.{span_counted}
use Rattle.kernel_front.proofs.reading.places_count_lines_and_columns.Goals as goal

pub returns : goal.returns
returns c = span_counted
