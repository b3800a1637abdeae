-- `station_product` meets its contract.
use Rattle.capacity.specs.Volume.{station_product}
use Rattle.figuring.proofs.volume.station_product.Goals as goal

pub returns : goal.returns
unfolding station_product
returns c = cc
