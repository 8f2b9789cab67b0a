-- The rows of a setup: packet stores, routes and limits of channels.
use Rattle.std.specs.Prelude.{◌≢◌, ◌≤◌, List, length, map, All, AllPairs, Contains}
use Rattle.mm_base.specs.declared.limits.TheConstants.{MAX_STORES, MAX_BLOCKS, MAX_CHANNEL, MAX_APID, MAX_ROUTES}
use Rattle.mm_base.specs.declared.limits.TheConstants.{CHANNELS}
use Rattle.mm_base.specs.Id.{IsIdField}
use Rattle.mm_base.specs.declared.rows.StoreRow.{StoreRow}
use Rattle.mm_base.specs.declared.rows.RouteRow.{RouteRow}
use Rattle.mm_base.specs.declared.rows.LimitRow.{LimitRow}
use Rattle.mm_problem.specs.declared.come.Arrivals.{Arrivals}

-- the rows of a setup, in its order, and when the arrivals of a step come
pub record SetupRows : Type 0 where
  pub stores : List StoreRow
  pub routes : List RouteRow
  pub limits : List LimitRow
  pub come : Arrivals

-- a store within the ranges of the profile
pub record IsStoreRow (r : StoreRow) : Type 0 where
  pub has_room : 1 ≤ r.size
  pub size : r.size ≤ MAX_BLOCKS
  pub start : r.start ≤ MAX_BLOCKS
  pub channel : r.channel ≤ MAX_CHANNEL

-- a store that holds no more at the start than its size
abbrev pub StartFits : StoreRow → Type 0
StartFits r = r.start ≤ r.size

-- a store that has the field of an identifier
abbrev pub HasId : StoreRow → Type 0
HasId r = IsIdField r.id

-- two stores with different identifiers
abbrev pub HaveOtherIds : StoreRow → StoreRow → Type 0
HaveOtherIds a b = a.id ≢ b.id

-- 1 to 16 stores with different identifiers
pub record AreStores (stores : List StoreRow) : Type 0 where
  pub has_store : 1 ≤ length stores
  pub at_most : length stores ≤ MAX_STORES
  pub each : All IsStoreRow stores
  pub named : AllPairs HaveOtherIds stores

-- a route to one of the stores
pub record IsRouteRow (stores : List StoreRow) (r : RouteRow) : Type 0 where
  pub apid : r.apid ≤ MAX_APID
  pub store : Contains (map (λ s. s.id) stores) r.store

-- at most 256 routes, all different
pub record AreRoutes (stores : List StoreRow) (routes : List RouteRow) : Type 0 where
  pub at_most : length routes ≤ MAX_ROUTES
  pub each : All (IsRouteRow stores) routes
  pub once : AllPairs ◌≢◌ routes

-- a limit within the ranges of the profile
pub record IsLimitRow (r : LimitRow) : Type 0 where
  pub channel : r.channel ≤ MAX_CHANNEL
  pub blocks : r.blocks ≤ MAX_BLOCKS

-- two limits of two channels
abbrev pub HaveOtherChannels : LimitRow → LimitRow → Type 0
HaveOtherChannels a b = a.channel ≢ b.channel

-- at most one limit for each channel
pub record AreLimits (limits : List LimitRow) : Type 0 where
  pub at_most : length limits ≤ CHANNELS
  pub each : All IsLimitRow limits
  pub once : AllPairs HaveOtherChannels limits

-- the rows of a setup within all ranges
pub record IsSetup (m : SetupRows) : Type 0 where
  pub stores : AreStores m.stores
  pub starts : All StartFits m.stores
  pub ids : All HasId m.stores
  pub routes : AreRoutes m.stores m.routes
  pub limits : AreLimits m.limits
