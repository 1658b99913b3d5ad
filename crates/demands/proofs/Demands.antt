-- The demands, proved: each has the type that specs/Demands.antt states for it.
use Rattle.feed.proofs.Blocked.{block_laws}
use Rattle.feed.proofs.Fed.{feed-sound}
use Rattle.demands.specs.Demands.{Demand1One, Demand1Number, Demand1Unchanged, Demand1Broken, Demand1Sound, Demand1Blind}
use Rattle.demands.specs.Demands.{Demand1Words, Demand1Place}
use Rattle.demands.specs.Demands.{Demand2, Demand2Zeros, Demand2Start, Demand2Alone, Demand2Area, Demand2Outside}
use Rattle.demands.specs.Demands.{Demand3Orders}
use Rattle.demands.specs.Demands.{Demand3Turns}
use Rattle.demands.specs.Demands.{Demand3Images}
use Rattle.demands.specs.Demands.{Demand3Rooms}
use Rattle.demands.proofs.Refused as refused
use Rattle.demands.proofs.Ready as ready
use Rattle.demands.proofs.Blind as blind
use Rattle.demands.proofs.Completed as completed
use Rattle.demands.proofs.Alone as alone
use Rattle.demands.proofs.Starting as starting
use Rattle.demands.proofs.Untouched as untouched
use Rattle.demands.proofs.Frames as frames
use Rattle.demands.proofs.AnyOrder as any_order
use Rattle.demands.proofs.Served as served

pub demand_1_one : Demand1One
demand_1_one = refused.one

pub demand_1_number : Demand1Number
demand_1_number = refused.number

pub demand_1_unchanged : Demand1Unchanged
demand_1_unchanged = refused.unchanged

pub demand_1_broken : Demand1Broken
demand_1_broken = refused.broken

pub demand_1_place : Demand1Place
demand_1_place = refused.place

pub demand_1_sound : Demand1Sound
demand_1_sound = ready.sound-kept

pub demand_1_blind : Demand1Blind
demand_1_blind = blind.blind

pub demand_1_words : Demand1Words
demand_1_words = ready.words_stored

pub demand_2 : Demand2
demand_2 = completed.demand_2

pub demand_2_zeros : Demand2Zeros
demand_2_zeros = completed.demand_2_zeros

pub demand_2_start : Demand2Start
demand_2_start = starting.demand_2_start

pub demand_2_alone : Demand2Alone
demand_2_alone = alone.demand_2_alone

pub demand_2_area : Demand2Area
demand_2_area = completed.demand_2_area

pub demand_2_outside : Demand2Outside
demand_2_outside = untouched.demand_2_outside block_laws

pub demand_3_orders : Demand3Orders
demand_3_orders = frames.demand_3_orders block_laws feed-sound

pub demand_3_turns : Demand3Turns
demand_3_turns = frames.demand_3_turns block_laws feed-sound

pub demand_3_images : Demand3Images
demand_3_images = any_order.demand_3_images demand_2 demand_3_orders

pub demand_3_rooms : Demand3Rooms
demand_3_rooms = served.demand_3_rooms
