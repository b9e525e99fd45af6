-- `crc::crc_list::list` meets its contract: the whole table is computed by long division and compared. Assumes nothing.
use Rattle.bits.proofs.Same.{same-eq}
use Rattle.bits.specs.Rows.{bits}
use Rattle.crc.specs.Crc.{xor, divide, remainder, crc}
use Rattle.crc.specs.CrcFours.{crc_list}
use Rattle.crc.proofs.crc_list.list.Goals as goal

pub returns : goal.returns
unfolding bits xor divide remainder crc crc_list
returns c = same-eq _ _ tt
