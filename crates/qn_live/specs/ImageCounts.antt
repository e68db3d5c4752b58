-- How many images a node runs on: this project's profile.
use Rattle.std.specs.Prelude.{ℕ}
use Rattle.qn_live.specs.declared.node_images.NodeImages.{NodeImages}
use Rattle.qn_live.specs.declared.node_images.NodeImages.TheVariants.{One, Three}

abbrev pub image_count : NodeImages → ℕ
image_count One = 1
image_count Three = 3
