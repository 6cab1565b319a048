mod RoomLemmas
