-- How a node is called: corosync.conf(5), `nodelist`, `node`, `name`.
use Rattle.std.specs.Prelude.{ℕ, ◌==◌, List, [], ◌∷◌, Option, None, option_map, if◌then◌else◌}
use Rattle.qn_base.specs.declared.ids.NodeId.{NodeId}
use Rattle.qn_links.specs.declared.sections.NodeSection.{NodeSection}

-- what the first section of that node writes as its `name`, where it writes one
abbrev pub name_text : List NodeSection → NodeId → Option (List ℕ)
name_text [] id = None
name_text (section ∷ sections) id =
    if section.id.0 == id.0 then option_map (λ written. written.now) section.name else name_text sections id
