-- The network by which channels are sent on links: from the source to the channels, to the links, and to the sink.
use Rattle.std.specs.Prelude.{◌≡◌, ℕ, ◌+◌, ◌-◌, ◌*◌, ◌/◌, ◌%◌, ◌<◌, ◌≤◌, nat_lt, if◌then◌else◌, List, length, Some}
use Rattle.mm_base.specs.declared.limits.TheConstants.{CHANNELS}
use Rattle.mm_flow.specs.declared.arc.Arc.{Arc}
use Rattle.mm_flow.specs.Graph.{Graph, arc}
use Rattle.mm_links.specs.declared.link.Link.{Link}
use Rattle.mm_links.specs.Rooms.{limit_at, limit_of}
use Rattle.mm_links.specs.Shared.{amount, link}

-- the first nodes are the channels; after them come the links
abbrev pub link_node : ℕ → ℕ
link_node l = CHANNELS + l

-- then the source
abbrev pub source : List Link → ℕ
source links = CHANNELS + length links

-- and last the sink
abbrev pub sink : List Link → ℕ
sink links = CHANNELS + length links + 1

-- from a channel to a link, with the channel's limit there
abbrev pub limit_arc : List Link → ℕ → ℕ → Arc
limit_arc links l c = record { from = c; to = link_node l; capacity = Some (limit_at (link links l) c) }

-- from the source to a channel, with what is to be sent of it
abbrev pub amount_arc : List Link → List ℕ → ℕ → Arc
amount_arc links x c = record { from = source links; to = c; capacity = Some (amount x c) }

-- from a link to the sink, with its window
abbrev pub window_arc : List Link → ℕ → Arc
window_arc links l = record { from = link_node l; to = sink links; capacity = Some (link links l).window }

-- how many arcs lead to links
abbrev pub shares : List Link → ℕ
shares links = length links * CHANNELS

-- the arc with a number: first those to links, link by link, then those to channels, then those to the sink
unfoldable pub arc_of : List Link → List ℕ → ℕ → Arc
arc_of links x k =
    if nat_lt k (shares links) then limit_arc links (k / CHANNELS) (k % CHANNELS)
    else (if nat_lt k (shares links + CHANNELS) then amount_arc links x (k - shares links)
    else window_arc links (k - shares links - CHANNELS))

-- how many arcs there are
abbrev pub arc_count : List Link → ℕ
arc_count links = shares links + CHANNELS + length links

-- how many nodes
abbrev pub node_count : List Link → ℕ
node_count links = CHANNELS + length links + 2

-- the network has its first arcs up to a number
pub record IsBuilt (links : List Link) (x : List ℕ) (g : Graph) (n : ℕ) : Type 0 where
  pub nodes : g.nodes ≡ node_count links
  pub arcs : length g.arcs ≡ n
  pub each : (k : ℕ) → k < n → arc g k ≡ arc_of links x k

-- no amount is above its limit
abbrev pub KeepsLimits : List Link → List ℕ → Type 0
KeepsLimits links x = (c : ℕ) → c < CHANNELS → amount x c ≤ limit_of links c
