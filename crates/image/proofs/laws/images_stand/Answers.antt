use Rattle.image.proofs.ReadBack.{reads_back as reads}
use Rattle.image.proofs.Whole.{one_image as image, only_images as only, one_code as code, writes_back as writes}
use Rattle.image.proofs.laws.images_stand.Goals as goal

pub returns : goal.returns
returns c = record { one_image = image; reads_back = reads; only_images = only; one_code = code; writes_back = writes }
