use Rattle.std.proofs.Common.{rules}
use Rattle.image.specs.Codes.{good_header}
use Rattle.image.proofs.write.good_header.Goals as goal

pub returns-then-count-ge1 : goal.returns-then-count-ge1
unfolding good_header
returns-then-count-ge1 c = search rules

pub returns-else-count-ge1 : goal.returns-else-count-ge1
unfolding good_header
returns-else-count-ge1 c = search rules
